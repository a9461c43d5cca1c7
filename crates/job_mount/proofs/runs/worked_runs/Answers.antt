use Rattle.std.proofs.Common.{refl}
use Rattle.script_words.specs.Text.{lines, words}
use Rattle.script_words.specs.Forms.{decimal, decimal_in, hexadecimal, pairs, hex_bytes, sized_pairs, each, joined}
use Rattle.job_script.specs.Forms.{dcb_name, method_of}
use Rattle.job_script.specs.Verbs.{verb_of}
use Rattle.job_script.specs.Lines.{tasks_line, disk_line, tape_line, printer_line, record_line, block_line, mark_line}
use Rattle.job_script.specs.Lines.{fault_line, open_line, area_line, excp_line, set_up_line, by_verb, line_kind}
use Rattle.job_script.specs.Adding.{numbered, is_dcb, add_tasks, add_unit, change_unit, add_area, add_set_up}
use Rattle.job_script.specs.Adding.{names_command, excp_command, add_command, add_line}
use Rattle.job_script.specs.Grammar.{lines_from, script_of}
use Rattle.job_mount.specs.Mounting.{books_with, devices_with, opened, tried, units_with}
use Rattle.job_mount.specs.Openings.{open_all}
use Rattle.job_mount.proofs.runs.worked_runs.Goals as goal

pub returns : goal.returns
unfolding
    decimal decimal_in hexadecimal pairs hex_bytes sized_pairs each joined lines words dcb_name method_of verb_of
    tasks_line disk_line tape_line printer_line record_line block_line mark_line fault_line open_line area_line
    excp_line set_up_line by_verb line_kind
    numbered is_dcb add_tasks add_unit change_unit add_area add_set_up names_command excp_command add_command add_line lines_from script_of
    books_with devices_with opened tried units_with open_all
returns c = record {
  no_command = refl;
  one_request = refl;
  no_byte_shown = refl;
  track_too_small = refl;
  no_cylinder = refl;
  record_outside = refl;
  faults_fall = refl;
  small_tape = refl;
  long_block = refl;
  many_lines = refl;
  first_unit = refl;
  medium_first = refl;
  tracks_two = refl;
  no_extent = refl;
  tape_extent = refl;
  first_line = refl;
  extent_first = refl;
  iob_outside = refl;
  shown_outside = refl;
  first_request = refl;
  three_units = refl;
}
