use Rattle.std.proofs.Common.{refl}
use Rattle.script_words.specs.Text.{lines, words}
use Rattle.script_words.specs.Forms.{decimal, decimal_in, hexadecimal, pairs, hex_bytes, sized_pairs, each, joined}
use Rattle.job_script.specs.Forms.{dcb_name, method_of, mode_of}
use Rattle.job_script.specs.Verbs.{verb_of}
use Rattle.job_script.specs.Lines.{tasks_line, disk_line, tape_line, printer_line, record_line, block_line, mark_line}
use Rattle.job_script.specs.Lines.{fault_line, open_line, area_line}
use Rattle.job_script.specs.Lines.{excp_line, purge_line, purgetask_line, close_line, reset_line, wait_line}
use Rattle.job_script.specs.Lines.{set_up_line, by_verb, line_kind}
use Rattle.job_script.specs.Adding.{numbered, is_dcb, add_tasks, add_unit, change_unit, add_area, add_set_up}
use Rattle.job_script.specs.Adding.{names_command, excp_command, add_command, add_line}
use Rattle.job_script.specs.Grammar.{lines_from, script_of}
use Rattle.job_script.proofs.runs.worked_runs.Goals as goal

pub returns : goal.returns
unfolding
    decimal decimal_in hexadecimal pairs hex_bytes sized_pairs each joined lines words dcb_name method_of mode_of verb_of
    tasks_line disk_line tape_line printer_line record_line block_line mark_line fault_line open_line area_line
    excp_line purge_line purgetask_line close_line reset_line wait_line set_up_line by_verb line_kind
    numbered is_dcb add_tasks add_unit change_unit add_area add_set_up names_command excp_command add_command add_line lines_from script_of
returns c = record {
  empty = refl;
  no_command = refl;
  one_request = refl;
  two_requests = refl;
  unknown_dcb = refl;
  unknown_area = refl;
  unknown_task = refl;
  no_task = refl;
  no_unit = refl;
  unknown_word = refl;
  one_word_more = refl;
  unprintable = refl;
  skipped = refl;
  spaces_and_zeros = refl;
  eleven_digits = refl;
  modulo = refl;
  number_first = refl;
  order_first = refl;
  name_last = refl;
  tasks_twice = refl;
  subclass_8 = refl;
  no_tape = refl;
  misaligned = refl;
  past_top = refl;
  odd_digits = refl;
  out_of_sequence = refl;
  before_tasks = refl;
}
