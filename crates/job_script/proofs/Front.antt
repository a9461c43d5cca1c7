-- Lines that are read at the front of a text.
use Rattle.std.proofs.Common.{◌≡◌, ℕ, true, List, [], ◌∷◌, ◌++◌, codes, get_or, Ok, refl, sym, ap, ◌∙◌, arith}
use Rattle.io_images.specs.declared.status.SubStatus.{SubStatus}
use Rattle.io_images.specs.declared.status.UnitStatus.{UnitStatus}
use Rattle.script_words.specs.Forms.{decimal, decimal_in, hexadecimal}
use Rattle.script_words.specs.Front.{Front, LeadingLine}
use Rattle.script_words.specs.Text.{leading_line, lines}
use Rattle.script_words.proofs.Fronts.{front_last, front_word, one_word_more}
use Rattle.job_script.specs.Forms.{dcb_name}
use Rattle.job_script.specs.Lines.{LeadingSays, by_kind, by_verb, excp_line, fault_line, line_kind, set_up_line}
use Rattle.job_script.specs.Said.{LineSaid, says_excp, says_fault, says_set_up}
use Rattle.job_script.specs.Steps.{◌>>=◌}
use Rattle.job_script.specs.Verbs.{verb_of}

-- what the words of a first line say, it says
says_by_words : (number : ℕ) (text : List ℕ) (ws : List (List ℕ)) (said : LineSaid) (after : List ℕ) → LeadingLine text ws after
    → (line_kind true ws >>= λ kind. by_kind kind number ws) ≡ Ok said → LeadingSays number text said after
says_by_words number text ws said after f says =
    let first : leading_line text ≡ f.line = ap (λ (ls : List (List ℕ)). get_or ls 0 []) f.split in
    record {
      split = f.split ∙ ap (λ (l : List ℕ). l ∷ lines after) (sym first);
      says = rw (first, f.printable, f.parts) says;
      shorter = f.shorter;
    }

pub fault_first : (number unit ordinal sense : ℕ) (status : UnitStatus) (sub : SubStatus) (text a b c d e after : List ℕ)
    → text ≡ codes "fault" ++ 32 ∷ a
    → Front (decimal_in 0 63) 32 a unit b → Front decimal 32 b ordinal c → Front (hexadecimal 2) 32 c status.0 d
    → Front (hexadecimal 2) 32 d sub.0 e → Front (hexadecimal 4) 10 e sense after
    → LeadingSays number text (says_set_up (says_fault unit (record { ordinal = ordinal; unit = status; sub = sub; sense = sense })))
    after
unfolding line_kind verb_of by_verb set_up_line fault_line
fault_first number unit ordinal sense status sub text a b c d e after is u o s t x =
    let ws = u.word ∷ o.word ∷ s.word ∷ t.word ∷ x.word ∷ [] in
    let back : LeadingLine a ws after =
    front_word a b unit _ after u (front_word b c ordinal _ after o (front_word c d status.0 _ after s (front_word d e sub.0 _ after t
    (front_last e after sense x)))) in
    says_by_words number text (codes "fault" ∷ ws) _ after (one_word_more (codes "fault") text a ws after is (omega arith) refl back)
    (rw (u.reads, o.reads, s.reads, t.reads, x.reads) refl)

pub excp_first : (number task unit dcb iob area show len : ℕ) (text a b c d e f g after : List ℕ) → text ≡ codes "excp" ++ 32 ∷ a
    → Front (decimal_in 0 63) 32 a task b → Front (decimal_in 0 63) 32 b unit c → Front (decimal_in 1 65535) 32 c dcb d
    → Front (hexadecimal 6) 32 d iob e → Front decimal 32 e area f → Front (hexadecimal 6) 32 f show g → Front decimal 10 g len after
    → LeadingSays number text
    (says_excp
    (record { line = number; task = task; dcb = record { unit = unit; number = dcb }; iob = iob; area = area; show = show; len = len }))
    after
unfolding line_kind verb_of by_verb excp_line dcb_name
excp_first number task unit dcb iob area show len text a b c d e f g after is t u n i k s l =
    let ws = t.word ∷ u.word ∷ n.word ∷ i.word ∷ k.word ∷ s.word ∷ l.word ∷ [] in
    let back : LeadingLine a ws after =
    front_word a b task _ after t (front_word b c unit _ after u (front_word c d dcb _ after n (front_word d e iob _ after i
    (front_word e f area _ after k (front_word f g show _ after s (front_last g after len l)))))) in
    says_by_words number text (codes "excp" ∷ ws) _ after (one_word_more (codes "excp") text a ws after is (omega arith) refl back)
    (rw (t.reads, u.reads, n.reads, i.reads, k.reads, s.reads, l.reads) refl)
