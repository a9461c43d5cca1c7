-- One pass over the bytes of a line.
use Rattle.std.proofs.Common.{◌≡◌, ◌<◌, ◌≤◌, ◌≢◌, ◌+◌, ◌-◌, ℕ, Bool, true, false, List, [], ◌∷◌, ◌++◌, length, take, drop, get_or, set}
use Rattle.std.proofs.Common.{refl, sym, ap, ◌∙◌, append_assoc, arith, length-drop, length-take, inl, inr, ◌⊎◌, ◌&&◌}
use Rattle.std.specs.List.{All, position_or_len}
use Rattle.std.proofs.lemmas.Bool.{cases_lt, le-leb, lt-leb}
use Rattle.std.proofs.lemmas.List.{append-nil, take_all, take_more, get_or-drop, drop-take, take-append-drop, take-append-le}
use Rattle.std.proofs.lemmas.List.{length-take-le, length-set, get_or_push, get_or_append_left, get_or-set_same, get_or-set_other}
use Rattle.std.proofs.lemmas.List.{length_push}
use Rattle.std.proofs.lemmas.List.Elements.{All-nil, All-push, All-from_get_or}
use Rattle.std.proofs.lemmas.List.Splits.{slice_split_at, slice_split_first, slice_split_none}
use Rattle.std.proofs.lemmas.List.Folds.{list_all_more}
use Rattle.script_words.proofs.Scanning.{stops_here}
use Rattle.script_words.specs.Text.{is_line_feed, is_printable_byte, is_printable, lines, is_space, words}
use Rattle.script_words.specs.Scan.{Closed, Keeps, Scanned, piece}

pub words_word : (word tail : List ℕ) → 0 < length word → All (λ b. is_space b ≡ false) word → words (word ++ 32 ∷ tail) ≡ word ∷ words tail
unfolding words
words_word [] tail some all = absurd (omega arith)
words_word (b ∷ bs) tail some all = rw (slice_split_at is_space (b ∷ bs) 32 tail all refl) refl

pub words_last : (word : List ℕ) → 0 < length word → All (λ b. is_space b ≡ false) word → words word ≡ word ∷ []
unfolding words
words_last [] some all = absurd (omega arith)
words_last (b ∷ bs) some all = rw (slice_split_none is_space (b ∷ bs) all) refl

words_space : (tail : List ℕ) → words (32 ∷ tail) ≡ words tail
unfolding words
words_space tail = refl

words_nil : words [] ≡ []
unfolding words
words_nil = refl

piece_length : (text : List ℕ) (start end : ℕ) → start ≤ end → end ≤ length text → length (piece text start end) ≡ end - start
piece_length text start end le within = omega (arith, length-take (end - start) (drop start text), length-drop start text)

piece_none : (text : List ℕ) (place : ℕ) → piece text place place ≡ []
piece_none text place = let e : place - place ≡ 0 = omega arith in rw e refl

piece_more : (text : List ℕ) (start place : ℕ) → start ≤ place → place < length text
    → piece text start (place + 1) ≡ piece text start place ++ get_or text place 0 ∷ []
piece_more text start place le within =
    let n : place + 1 - start ≡ (place - start) + 1 = omega arith in
    let inside : place - start < length (drop start text) = omega (arith, length-drop start text) in
    let at : start + (place - start) ≡ place = omega arith in
    rw (n, take_more (drop start text) (place - start) 0 inside, get_or-drop start text (place - start) 0, at) refl

more_at : (k n : ℕ) → k < n + 1 → (k < n) ⊎ (k ≡ n)
more_at k n h = elim (cases_lt k n) [ inl l ↦ inl l | inr g ↦ inr (omega arith) ]

not_at : (k n : ℕ) → k < n → k ≢ n
not_at k n h = λ e. absurd (omega arith)

-- what was kept, with one word more
kept_more : (text starts ends : List ℕ) (found : List (List ℕ)) (start place : ℕ) → length found < 8 → start ≤ place
    → Keeps text starts ends found place
    → Keeps text (set starts (length found) start) (set ends (length found) place) (found ++ piece text start place ∷ []) place
kept_more text starts ends found start place room before kept =
    let n = length found in
    let w = piece text start place in
    let size = length_push found w in
    record {
      begins = length-set starts n start ∙ kept.begins;
      stops = length-set ends n place ∙ kept.stops;
      word = λ k few within. elim (more_at k n (omega (arith, size, within))) [
        | inl h ↦ rw (
          get_or_append_left found (w ∷ []) [] k h,
          get_or-set_other starts n k start 0 (not_at k n h),
          get_or-set_other ends n k place 0
              (not_at k n h),
        )
            (kept.word k few h)
        | inr e ↦ rw (
          e,
          get_or_push found w [] n refl,
          get_or-set_same starts n start 0 (omega (arith, kept.begins)),
          get_or-set_same ends n place 0
              (omega (arith, kept.stops)),
        )
            refl
      ];
      order = λ k few within. elim (more_at k n (omega (arith, size, within))) [
        | inl h ↦ rw (get_or-set_other starts n k start 0 (not_at k n h), get_or-set_other ends n k place 0 (not_at k n h))
            (kept.order k few h)
        | inr e ↦ rw
            (e, get_or-set_same starts n start 0 (omega (arith, kept.begins)), get_or-set_same ends n place 0 (omega (arith, kept.stops)))
            before
      ];
      inside = λ k few within. elim (more_at k n (omega (arith, size, within))) [
        | inl h ↦ rw (get_or-set_other ends n k place 0 (not_at k n h)) (kept.inside k few h)
        | inr e ↦ rw (e, get_or-set_same ends n place 0 (omega (arith, kept.stops))) (omega arith)
      ];
    }

-- with a word more that is not kept
kept_past : (text starts ends : List ℕ) (found : List (List ℕ)) (w : List ℕ) (place : ℕ) → 8 ≤ length found
    → Keeps text starts ends found place → Keeps text starts ends (found ++ w ∷ []) place
kept_past text starts ends found w place full kept = record {
  begins = kept.begins;
  stops = kept.stops;
  word = λ k few within. let h : k < length found = omega arith in rw (get_or_append_left found (w ∷ []) [] k h) (kept.word k few h);
  order = λ k few within. kept.order k few (omega arith);
  inside = λ k few within. kept.inside k few (omega arith);
}

kept_on : (text starts ends : List ℕ) (found : List (List ℕ)) (place : ℕ) → Keeps text starts ends found place
    → Keeps text starts ends found (place + 1)
kept_on text starts ends found place kept = record {
  begins = kept.begins;
  stops = kept.stops;
  word = kept.word;
  order = kept.order;
  inside = λ k few within. omega (arith, kept.inside k few within);
}

-- the words before a place, where one ends there, and where none does
found_word : (text starts ends : List ℕ) (count start place : ℕ) → place ≤ length text → start < place
    → (s : Scanned text starts ends count start place) → words (take place text) ≡ s.found ++ piece text start place ∷ []
found_word text starts ends count start place within some s =
    let w = piece text start place in
    let long : 0 < length w = omega (arith, piece_length text start place s.before within) in
    let whole : words (take place text ++ []) ≡ s.found ++ words (w ++ []) = s.split [] in
    ap words (sym (append-nil (take place text))) ∙ whole ∙ rw (append-nil w, words_last w long s.word) refl

closes : (text starts ends starts' ends' : List ℕ) (count start place : ℕ) → place ≤ length text → start < place
    → (s : Scanned text starts ends count start place)
    → Keeps text starts' ends' (s.found ++ piece text start place ∷ []) place → Closed text starts' ends' (count + 1) place
closes text starts ends starts' ends' count start place within some s kept =
    let w = piece text start place in
    let long : 0 < length w = omega (arith, piece_length text start place s.before within) in
    let all = found_word text starts ends count start place within some s in
    record {
      counted = ap length all ∙ length_push s.found w ∙ ap (λ (n : ℕ). n + 1) s.counted;
      kept = rw all kept;
      split = λ tail. s.split (32 ∷ tail) ∙ rw (words_word w tail long s.word, all) (sym (append_assoc s.found (w ∷ []) (words tail)));
    }

pub closes_kept : (text starts ends : List ℕ) (count start place : ℕ) → place ≤ length text → start < place → count < 8
    → Scanned text starts ends count start place → Closed text (set starts count start) (set ends count place) (count + 1) place
closes_kept text starts ends count start place within some room s =
    let kept : Keeps text (set starts (length s.found) start) (set ends (length s.found) place) (s.found ++ piece text start place ∷ [])
    place =
    kept_more text starts ends s.found start place (omega (arith, s.counted)) s.before s.kept in
    closes text starts ends (set starts count start) (set ends count place) count start place within some s (rw (sym s.counted) kept)

pub closes_past : (text starts ends : List ℕ) (count start place : ℕ) → place ≤ length text → start < place → 8 ≤ count
    → Scanned text starts ends count start place → Closed text starts ends (count + 1) place
closes_past text starts ends count start place within some full s =
    closes text starts ends starts ends count start place within some s
    (kept_past text starts ends s.found (piece text start place) place (omega (arith, s.counted)) s.kept)

pub closes_none : (text starts ends : List ℕ) (count start place : ℕ) → place ≤ start → Scanned text starts ends count start place
    → Closed text starts ends count place
closes_none text starts ends count start place none s =
    let e : start ≡ place = omega (arith, s.before) in
    let empty : piece text start place ≡ [] = rw e (piece_none text place) in
    let all : words (take place text) ≡ s.found =
    ap words (sym (append-nil (take place text))) ∙ s.split [] ∙ rw (empty, words_nil) (append-nil s.found) in
    record {
      counted = ap length all ∙ s.counted;
      kept = rw all s.kept;
      split = λ tail. s.split (32 ∷ tail) ∙ rw (empty, all, words_space tail) refl;
    }

-- one byte further
pub after_space : (text starts ends : List ℕ) (count place : ℕ) → place < length text → get_or text place 0 ≡ 32
    → Closed text starts ends count place → Scanned text starts ends count (place + 1) (place + 1)
after_space text starts ends count place within is c =
    let front : take (place + 1) text ≡ take place text ++ 32 ∷ [] = take_more text place 0 within ∙ rw is refl in
    record {
      found = words (take place text);
      split = λ tail. rw (front, piece_none text (place + 1), append_assoc (take place text) (32 ∷ []) tail) (c.split tail);
      counted = c.counted;
      kept = kept_on text starts ends (words (take place text)) place c.kept;
      before = omega arith;
      word = rw (piece_none text (place + 1)) (All-nil (λ b. is_space b ≡ false));
    }

pub after_byte : (text starts ends : List ℕ) (count start place : ℕ) → place < length text → is_space (get_or text place 0) ≡ false
    → Scanned text starts ends count start place → Scanned text starts ends count start (place + 1)
after_byte text starts ends count start place within is s =
    let b = get_or text place 0 in
    let front : take (place + 1) text ≡ take place text ++ b ∷ [] = take_more text place 0 within in
    let more = piece_more text start place s.before within in
    record {
      found = s.found;
      split = λ tail. rw (front, more, append_assoc (take place text) (b ∷ []) tail, append_assoc (piece text start place) (b ∷ []) tail)
          (s.split (b ∷ tail));
      counted = s.counted;
      kept = kept_on text starts ends s.found place s.kept;
      before = omega (arith, s.before);
      word = rw more (All-push (λ x. is_space x ≡ false) (piece text start place) b s.word is);
    }

-- the places are the same in the line alone
piece_front : (text : List ℕ) (start end place : ℕ) → start ≤ end → end ≤ place → place ≤ length text
    → piece (take place text) start end ≡ piece text start end
piece_front text start end place order inside within =
    let back = drop start text in
    let rest = place - start in
    let sum : start + rest ≡ place = omega arith in
    let front : drop start (take place text) ≡ take rest back = rw sum at (drop-take start rest text) in
    let size : length (take rest back) ≡ rest = length-take-le rest back (omega (arith, length-drop start text)) in
    rw front
    (sym (take-append-le (end - start) (take rest back) (drop rest back) (omega arith)) ∙ ap (take (end - start))
    (take-append-drop rest back))

closed_front : (text starts ends : List ℕ) (count place : ℕ) → place ≤ length text → Closed text starts ends count place
    → Closed (take place text) starts ends count place
closed_front text starts ends count place within c =
    let size : length (take place text) ≡ place = length-take-le place text within in
    let same : take place (take place text) ≡ take place text = take_all place (take place text) (omega arith) in
    record {
      counted = rw same c.counted;
      kept = record {
        begins = c.kept.begins;
        stops = c.kept.stops;
        word = λ k few some. let h : k < length (words (take place text)) = rw same at some in rw same
            (c.kept.word k few h ∙ sym
            (piece_front text (get_or starts k 0) (get_or ends k 0) place (c.kept.order k few h) (c.kept.inside k few h) within));
        order = λ k few some. let h : k < length (words (take place text)) = rw same at some in c.kept.order k few h;
        inside = λ k few some. let h : k < length (words (take place text)) = rw same at some in c.kept.inside k few h;
      };
      split = λ tail. rw same (c.split tail);
    }

pub closed_line : (text line starts ends : List ℕ) (count place : ℕ) → line ≡ take place text → place ≤ length text
    → Closed text starts ends count place → Closed line starts ends count (length line)
closed_line text line starts ends count place is within c =
    let size : length (take place text) ≡ place = length-take-le place text within in
    rw (is, size) (closed_front text starts ends count place within c)

pub at_start : (text starts ends : List ℕ) → length starts ≡ 8 → length ends ≡ 8 → Scanned text starts ends 0 0 0
at_start text starts ends ls le = record {
  found = [];
  split = λ tail. refl;
  counted = refl;
  kept = record {
    begins = ls;
    stops = le;
    word = λ k few within. absurd (omega arith);
    order = λ k few within. absurd (omega arith);
    inside = λ k few
        within. absurd (omega arith);
  };
  before = omega arith;
  word = All-nil (λ b. is_space b ≡ false);
}

pub nothing_closed : (starts ends : List ℕ) → length starts ≡ 8 → length ends ≡ 8 → Closed [] starts ends 0 0
nothing_closed starts ends ls le = closes_none [] starts ends 0 0 0 (omega arith) (at_start [] starts ends ls le)

-- one byte further: whether each is printable, and that the line is not over
and_true : (b : Bool) → (b && true) ≡ b
and_true true = refl
and_true false = refl

and_false : (b : Bool) → (b && false) ≡ false
and_false true = refl
and_false false = refl

pub plain_more : (text : List ℕ) (place : ℕ) (plain : Bool) → place < length text → is_printable_byte (get_or text place 0) ≡ true
    → plain ≡ is_printable (take place text) → plain ≡ is_printable (take (place + 1) text)
plain_more text place plain within is so_far =
    so_far
    ∙ sym
    (list_all_more is_printable_byte text place 0 within ∙ ap (λ (b : Bool). is_printable (take place text) && b) is ∙ and_true
    (is_printable (take place text)))

pub plain_less : (text : List ℕ) (place : ℕ) → place < length text → is_printable_byte (get_or text place 0) ≡ false
    → false ≡ is_printable (take (place + 1) text)
plain_less text place within is =
    sym
    (list_all_more is_printable_byte text place 0 within ∙ ap (λ (b : Bool). is_printable (take place text) && b) is ∙ and_false
    (is_printable (take place text)))

pub line_goes_on : (text : List ℕ) (place : ℕ) → is_line_feed (get_or text place 0) ≡ false
    → ((k : ℕ) → k < place → is_line_feed (get_or text k 0) ≡ false) → (k : ℕ) → k < place + 1 → is_line_feed (get_or text k 0) ≡ false
line_goes_on text place here below k h = elim (more_at k place h) [ inl l ↦ below k l | inr e ↦ rw e here ]

pub line_stops : (text after : List ℕ) (place : ℕ) → place < length text → ((k : ℕ) → k < place → is_line_feed (get_or text k 0) ≡ false)
    → get_or text place 0 ≡ 10 → after ≡ drop (place + 1) text → lines text ≡ take place text ∷ lines after
unfolding lines
line_stops text after place within below is rest =
    let here : is_line_feed (get_or text place 0) ≡ true = rw is refl in
    let e : place ≡ position_or_len is_line_feed text = stops_here is_line_feed text place within below here in
    rw (rest, e) (slice_split_first is_line_feed text 0 (omega arith))

pub line_is_last : (text : List ℕ) (place : ℕ) → length text ≤ place → ((k : ℕ) → k < place → is_line_feed (get_or text k 0) ≡ false)
    → lines text ≡ text ∷ []
unfolding lines
line_is_last text place end below =
    slice_split_none is_line_feed text (All-from_get_or (λ b. is_line_feed b ≡ false) text 0 (λ k h. below k (omega arith)))

pub plain_byte : (b : ℕ) → 32 ≤ b → b ≤ 126 → is_printable_byte b ≡ true
plain_byte b low high = rw (le-leb 32 b low, le-leb b 126 high) refl

pub other_byte : (b : ℕ) → b ≢ 32 → (33 ≤ b → 126 < b) → is_printable_byte b ≡ false
other_byte b ne high =
    elim (cases_lt b 32) [
      | inl h ↦ rw (lt-leb 32 b h) refl
      | inr h ↦ (let far : 126 < b = high (omega arith) in rw (le-leb 32 b h, lt-leb b 126 far) refl)
    ]
