-- How the calls of a book lengthen its trace: it stays legal, nothing is due behind it, and its posts grow.
use Rattle.unit_book.proofs.Names.{◌≡◌, ℕ, ◌+◌, true, List, [], ◌∷◌, ◌++◌, append_assoc, refl, sym, ap, ◌∙◌, subst, append-nil, list_all}
use Rattle.unit_book.proofs.Names.{Status, Code, Purged, Extent, Meaning, PostedState, Name, Piece, Scope, Mode, Entry, Opened, Arrive}
use Rattle.unit_book.proofs.Names.{Start, Ran, Halted, Purge, Close, Reset, Post, arrivals, arrived_of, request_named, doomed, is_open}
use Rattle.unit_book.proofs.Names.{area, Free, due, doomed_first, FitsBy, Legal, StartFits, PostFits, OfActive, PostsActive, CanPurge}
use Rattle.unit_book.proofs.Names.{posted, posted_value, after_dooms, halted_by, after_purge, ProcessingMethod, arith}
use Rattle.unit_book.specs.Trace.{is_opening}
use Rattle.unit_book.specs.Legal.{OpenFits, RanFits}
use Rattle.unit_book.proofs.Lists.{without}
use Rattle.unit_book.proofs.LegalFacts.{SoundTrace}
use Rattle.unit_book.proofs.Same.{fits-free}
use Rattle.unit_book.proofs.Counting.{arrivals-after_dooms}
use Rattle.unit_book.proofs.Dooms.{doomed-purged, due-doomed, due-no_halt, dooms-settle, settled-new, settled-open, settled-ran}
use Rattle.unit_book.proofs.Dooms.{settled-start, halted-first, posted-more}
use Rattle.unit_book.proofs.Controls.{settled-reset}
use Rattle.unit_book.proofs.Facts.{DueIs, Halts, Dooms, due-is}
use Rattle.std.proofs.lemmas.Grind.{common_steps}

module _ {D : Type 0} (meaning : Meaning D) (mounted : D) where
  -- A TRACE GREW: it is legal, nothing is due, these requests arrived, and these values were posted
  pub record Grows (H G : List Entry) (more : List Piece) : Type 0 where
    pub legal : Legal meaning mounted G
    pub settled : due meaning mounted G ≡ Free
    pub arrived : arrivals G ≡ arrivals H ++ more
    pub values : List PostedState
    pub posted_is : posted meaning mounted G ≡ posted meaning mounted H ++ values

module _ {D : Type 0} {meaning : Meaning D} {mounted : D} {H : List Entry} where
  -- what leaves the posts as they are
  grows-quietly : (G : List Entry) → Legal meaning mounted G → due meaning mounted G ≡ Free → arrivals G ≡ arrivals H →
      posted meaning mounted G ≡ posted meaning mounted H → Grows meaning mounted H G []
  grows-quietly G l s a p = grind (arith, common_steps)

  pub grows-not : SoundTrace meaning mounted H → Grows meaning mounted H H []
  grows-not s = grows-quietly H s.legal s.settled refl refl

  -- and then the dooms
  grows-dooms : {more : List Piece} (G : List Entry) (vs : List PostedState) → Legal meaning mounted G →
      due meaning mounted G ≡ doomed_first (doomed G) → arrivals G ≡ arrivals H ++ more →
      posted meaning mounted G ≡ posted meaning mounted H ++ vs → Grows meaning mounted H (after_dooms G) more
  grows-dooms G vs l d a p =
      let s = dooms-settle meaning mounted G d l in
      let m = posted-more meaning mounted (doomed G) G in
      record {
        legal = s.0;
        settled = s.1;
        arrived = arrivals-after_dooms G ∙ a;
        values = vs ++ m.0;
        posted_is = m.1 ∙ ap (λ x. x ++ m.0) p ∙ append_assoc (posted meaning mounted H) vs m.0;
      }

  -- dooms of what neither arrives nor is posted
  dooms-quietly : (G : List Entry) → Legal meaning mounted G → due meaning mounted G ≡ doomed_first (doomed G) → arrivals G ≡ arrivals H →
      posted meaning mounted G ≡ posted meaning mounted H → Grows meaning mounted H (after_dooms G) []
  dooms-quietly G l d a p = grows-dooms G [] l d (a ∙ sym (append-nil (arrivals H))) (p ∙ sym (append-nil (posted meaning mounted H)))

  pub grows-open : (d : ℕ) (method : ProcessingMethod) (x : List Extent) → SoundTrace meaning mounted H → OpenFits meaning mounted d x H →
      Grows meaning mounted H (Opened d method x ∷ H) []
  unfolding Legal arrivals posted
  grows-open d method x s f = grind (arith, common_steps, settled-open)

  pub grows-arrive : (r : Piece) → SoundTrace meaning mounted H → r.name.seq ≡ arrived_of r.name.task H + 1 →
      Grows meaning mounted H (after_dooms (Arrive r ∷ H)) (r ∷ [])
  unfolding Legal arrivals posted
  grows-arrive r s f =
      grows-dooms (Arrive r ∷ H) [] (fits-free meaning mounted (Arrive r) H s.settled f, s.legal)
      (due-no_halt meaning mounted (Arrive r ∷ H) (λ n a. refl)) refl (sym (append-nil (posted meaning mounted H)))

  pub grows-start : (n : Name) → SoundTrace meaning mounted H → StartFits meaning mounted n H → Grows meaning mounted H (Start n ∷ H) []
  unfolding Legal arrivals posted
  grows-start n s f = grows-quietly (Start n ∷ H) (fits-free meaning mounted (Start n) H s.settled f, s.legal)
      (settled-start meaning mounted n H s.settled) refl refl

  pub grows-ran : (n : Name) (j : ℕ) → SoundTrace meaning mounted H → RanFits meaning mounted n j H →
      Grows meaning mounted H (Ran n j ∷ H) []
  unfolding Legal arrivals posted
  grows-ran n j s f = grind (arith, common_steps, settled-ran)

  pub grows-post : (n : Name) (status : Status) (code : Code) → SoundTrace meaning mounted H → PostFits meaning mounted n status code H →
      Grows meaning mounted H (after_dooms (Post n status.csw status.sense code ∷ H)) []
  unfolding Legal arrivals posted
  grows-post n status code s f =
      let e = Post n status.csw status.sense code in
      let v = posted_value (request_named n H) status.csw status.sense code (area meaning mounted (request_named n H) H) in
      grows-dooms (e ∷ H) (v ∷ []) (fits-free meaning mounted e H s.settled f, s.legal)
      (due-no_halt meaning mounted (e ∷ H) (λ n a. refl)) (sym (append-nil (arrivals H))) refl

  pub grows-close : (d : ℕ) → SoundTrace meaning mounted H → is_open d H ≡ true → Grows meaning mounted H (after_dooms (Close d ∷ H)) []
  unfolding Legal arrivals posted
  grows-close d s f =
      dooms-quietly (Close d ∷ H) (fits-free meaning mounted (Close d) H s.settled f, s.legal)
      (due-no_halt meaning mounted (Close d ∷ H) (λ n a. refl)) refl refl

  pub grows-reset : (d : ℕ) → SoundTrace meaning mounted H → is_open d H ≡ true → Grows meaning mounted H (Reset d ∷ H) []
  unfolding Legal arrivals posted
  grows-reset d s f = grind (arith, common_steps, settled-reset)

  -- a purge, with the Halted that is due and the dooms
  pub grows-purge : (scope : Scope) (mode : Mode) → SoundTrace meaning mounted H → CanPurge meaning mounted scope H →
      Grows meaning mounted H (after_purge meaning mounted scope mode H) []
  unfolding Legal arrivals posted
  grows-purge scope mode s f = by_due (due-is meaning mounted P) where
    P : List Entry
    P = Purge scope mode ∷ H

    legal : Legal meaning mounted P
    legal = (fits-free meaning mounted (Purge scope mode) H s.settled f, s.legal)

    by_due : DueIs meaning mounted P → Grows meaning mounted H (after_dooms (halted_by (due meaning mounted P) P)) []
    by_due (Dooms d) = subst (λ x. Grows meaning mounted H (after_dooms x) []) (sym (ap (λ x. halted_by x P) d ∙ halted-first (doomed P) P))
        (dooms-quietly P legal d refl refl)
    by_due (Halts n d a b) = rw d (dooms-quietly (Halted n ∷ P) (subst (λ x. FitsBy meaning mounted x (Halted n) P) (sym d) refl, legal)
        (due-no_halt meaning mounted (Halted n ∷ P) (λ m a. refl)) refl refl)

  -- a post as purged behind it
  pub grows-purged : {G : List Entry} (n : Name) (status : Status) → Grows meaning mounted H G [] →
      PostsActive meaning mounted n status Purged G → Grows meaning mounted H (Post n status.csw status.sense Purged ∷ G) []
  unfolding Legal arrivals posted without
  grows-purged {G} n status g f =
      let e = Post n status.csw status.sense Purged in
      let v = posted_value (request_named n G) status.csw status.sense Purged (area meaning mounted (request_named n G) G) in
      record {
        legal = (fits-free meaning mounted e G g.settled (OfActive f), g.legal);
        settled = due-no_halt meaning mounted (e ∷ G) (λ m e. refl)
            ∙ ap doomed_first (doomed-purged n status.csw status.sense G ∙ ap (without n) (due-doomed meaning mounted G g.settled));
        arrived = g.arrived;
        values = g.values ++ v ∷ [];
        posted_is = ap (λ x. x ++ v ∷ []) g.posted_is ∙ append_assoc (posted meaning mounted H) g.values (v ∷ []);
      }

module _ {D : Type 0} (meaning : Meaning D) (mounted : D) where
  -- where only DCBs were opened, nothing arrived, was posted or is due
  pub opened-only : (H : List Entry) → list_all is_opening H ≡ true →
      (arrivals H ≡ []) × (posted meaning mounted H ≡ []) × (due meaning mounted H ≡ Free)
  unfolding arrivals posted
  opened-only [] h = (refl, refl, settled-new meaning mounted)
  opened-only (Opened d i x ∷ H) h = let ih = opened-only H h in (ih.0, ih.1, settled-open meaning mounted (Opened d i x) H refl ih.2)
  opened-only (_ ∷ H) h = absurd cc
