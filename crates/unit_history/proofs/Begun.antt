-- A start, and a post.
use Rattle.std.proofs.Common.{◌≡◌, ℕ, zero, suc, ◌+◌, append_assoc, Bool, true, false, ◌||◌, Option, Some, None, List, [], ◌∷◌, ◌++◌, refl}
use Rattle.std.proofs.Common.{sym, ap, ◌∙◌, subst, reverse, take}
use Rattle.std.proofs.lemmas.List.{reverse-append}
use Rattle.std.proofs.lemmas.List.Folds.{list_any-append}
use Rattle.std.specs.List.{list_any}
use Rattle.std.specs.Prelude.{slice_get}
use Rattle.device_port.specs.Meaning.{Meaning, Lawful, fits}
use Rattle.ccw_programs.specs.Place.{start_place}
use Rattle.request_piece.specs.declared.piece.Name.{Name}
use Rattle.request_piece.specs.declared.piece.Piece.{Piece}
use Rattle.unit_book.specs.declared.entry.Entry.{Entry}
use Rattle.unit_book.specs.declared.entry.Entry.TheVariants.{Opened, Arrive, Start, Ran, Halted, Purge, Close, Reset, Post}
use Rattle.unit_book.specs.Lists.{Each}
use Rattle.unit_book.specs.Trace.{arrivals, arrives, request_named}
use Rattle.unit_book.specs.Dcbs.{mask_of}
use Rattle.unit_book.specs.Legal.{Legal}
use Rattle.unit_book.specs.Media.{area, device}
use Rattle.unit_book.proofs.Facts.{Known}
use Rattle.unit_book.proofs.LegalFacts.{facts}
use Rattle.unit_history.specs.declared.attempt.Attempt.{Attempt}
use Rattle.unit_history.specs.Replayed.{IsPost}
use Rattle.unit_history.specs.Ties.{ArrivesAt, IsWithin, ReplayTies}
use Rattle.unit_history.proofs.ReplayBefore.{before, mask-before}
use Rattle.unit_history.proofs.Entries.{Stands, again-area, again-named, first-area, first-start, post-active, post-none, post-other}
use Rattle.unit_history.proofs.Entries.{start-opened, start-seeks, start-stands}
use Rattle.unit_history.proofs.Steps.{legal-here, post-entry, stands-before, ties-behind, whole-none}

any-reverse : (p : Entry → Bool) (xs : List Entry) → list_any p (reverse xs) ≡ list_any p xs
any-reverse p [] = refl
any-reverse p (x ∷ xs) =
    let e : list_any p (reverse (x ∷ xs)) ≡ (list_any p (reverse xs) || list_any p (x ∷ [])) =
    ap (list_any p) (reverse-append (x ∷ []) xs) ∙ list_any-append p (reverse xs) (x ∷ []) in
    e ∙ by_bools (list_any p (reverse xs)) (p x) ∙ ap (λ b. p x || b) (any-reverse p xs) where
      by_bools : (a b : Bool) → (a || (b || false)) ≡ (b || a)
      by_bools true true = refl
      by_bools true false = refl
      by_bools false true = refl
      by_bools false false = refl

-- what is at a place parts a list
parts-at : (xs : List Entry) (k : ℕ) (e : Entry) → slice_get xs k ≡ Some e → (a : List Entry) × (b : List Entry) × (xs ≡ a ++ e ∷ b)
parts-at [] k e h = absurd cc
parts-at (x ∷ xs) zero e h = let s : x ≡ e = cc in ([], xs, ap (λ y. y ∷ xs) s)
parts-at (x ∷ xs) (suc k) e h = let p = parts-at xs k e h in (x ∷ p.0, p.1, ap (λ ys. x ∷ ys) p.2)

behind-one : (front : List Entry) (e : Entry) (b back : List Entry) → front ≡ reverse b → reverse (e ∷ b) ++ back ≡ front ++ e ∷ back
behind-one front e b back h = rw (reverse-append (e ∷ []) b, h) (append_assoc (reverse b) (e ∷ []) back)

each-front : (P : Piece → Type 0) (xs : List Piece) (r : Piece) → Each P (xs ++ r ∷ []) → Each P xs
each-front P [] r h = tt
each-front P (x ∷ xs) r h = (h.0, each-front P xs r h.1)

each-last : (P : Piece → Type 0) (xs : List Piece) (r : Piece) → Each P (xs ++ r ∷ []) → P r
each-last P [] r h = h.0
each-last P (x ∷ xs) r h = each-last P xs r h.1

-- what is known of all that arrived is known of what arrived in between
known-in : (P : Piece → Type 0) (r : Piece) (later earlier : List Entry) → Each P (arrivals (later ++ Arrive r ∷ earlier)) → P r
unfolding arrivals
known-in P r [] earlier h = each-last P (arrivals earlier) r h
known-in P r (Opened d i x ∷ later) earlier h = known-in P r later earlier h
known-in P r (Arrive q ∷ later) earlier h = known-in P r later earlier (each-front P (arrivals (later ++ Arrive r ∷ earlier)) q h)
known-in P r (Start m ∷ later) earlier h = known-in P r later earlier h
known-in P r (Ran m j ∷ later) earlier h = known-in P r later earlier h
known-in P r (Halted m ∷ later) earlier h = known-in P r later earlier h
known-in P r (Purge s m ∷ later) earlier h = known-in P r later earlier h
known-in P r (Close d ∷ later) earlier h = known-in P r later earlier h
known-in P r (Reset d ∷ later) earlier h = known-in P r later earlier h
known-in P r (Post m c s k ∷ later) earlier h = known-in P r later earlier h

module _ {D : Type 0} (meaning : Meaning D) (mounted : D) (entries : List Entry) (done ran : ℕ) (n : Name) (now : D)
    (l : Legal meaning mounted (reverse entries)) where
  -- A POST
  module _ (entry : IsPost n (slice_get entries done)) where
    whole-post : {attempt : Option Attempt} → ReplayTies meaning mounted entries done ran now attempt → ran ≡ 0
    whole-post t =
        let e = post-entry n (slice_get entries done) entry in
        whole-none ran (Post n e.0 e.1 e.2) tt (subst (IsWithin ran) e.3 t.within)

    pub posted-none : ReplayTies meaning mounted entries done ran now None → ReplayTies meaning mounted entries (done + 1) ran now None
    posted-none t =
        let e = post-entry n (slice_get entries done) entry in
        let h = legal-here meaning mounted entries done (Post n e.0 e.1 e.2) e.3 l in
        ties-behind meaning mounted entries done (Post n e.0 e.1 e.2) e.3 l ran (whole-post t) now None
        (post-none meaning mounted n e.0 e.1 e.2 (before entries done) h now
        (stands-before meaning mounted entries done (Post n e.0 e.1 e.2) e.3 l ran (whole-post t) t))

    pub posted-other : (a : Attempt) → (a.issued.now.name ≡ n → ⊥) → ReplayTies meaning mounted entries done ran now (Some a) →
        ReplayTies meaning mounted entries (done + 1) ran now (Some a)
    posted-other a other t =
        let e = post-entry n (slice_get entries done) entry in
        let h = legal-here meaning mounted entries done (Post n e.0 e.1 e.2) e.3 l in
        ties-behind meaning mounted entries done (Post n e.0 e.1 e.2) e.3 l ran (whole-post t) now (Some a)
        (post-other meaning mounted n e.0 e.1 e.2 (before entries done) h now a other
        (stands-before meaning mounted entries done (Post n e.0 e.1 e.2) e.3 l ran (whole-post t) t))

    pub posted-active : (a : Attempt) → a.issued.now.name ≡ n → ReplayTies meaning mounted entries done ran now (Some a) →
        ReplayTies meaning mounted entries (done + 1) ran now None
    posted-active a named t =
        let e = post-entry n (slice_get entries done) entry in
        let h = legal-here meaning mounted entries done (Post n e.0 e.1 e.2) e.3 l in
        ties-behind meaning mounted entries done (Post n e.0 e.1 e.2) e.3 l ran (whole-post t) now None
        (post-active meaning mounted n e.0 e.1 e.2 (before entries done) h now a named
        (stands-before meaning mounted entries done (Post n e.0 e.1 e.2) e.3 l ran (whole-post t) t))

  -- A START
  module _ (here : slice_get entries done ≡ Some (Start n)) where
    abbrev H : List Entry
    H = before entries done

    legal : Legal meaning mounted (Start n ∷ H)
    legal = legal-here meaning mounted entries done (Start n) here l

    earlier-legal : Legal meaning mounted (Start n ∷ H) → Legal meaning mounted H
    unfolding Legal
    earlier-legal h = h.1

    whole-start : {attempt : Option Attempt} → ReplayTies meaning mounted entries done ran now attempt → ran ≡ 0
    whole-start t = whole-none ran (Start n) tt (subst (IsWithin ran) here t.within)

    standing : {attempt : Option Attempt} → ReplayTies meaning mounted entries done ran now attempt → Stands meaning mounted H now attempt
    standing t = stands-before meaning mounted entries done (Start n) here l ran (whole-start t) t

    -- a first start is of a request that arrived before
    pub start-arrived : ReplayTies meaning mounted entries done ran now None → list_any (arrives n) (take done entries) ≡ true
    start-arrived t = sym (any-reverse (arrives n) (take done entries)) ∙ (first-start meaning mounted n H legal (standing t).1).arrived

    -- the attempt that begins: its request has this name, its storage is as it stands, and its program is before its
    -- first command
    pub record Begins (a : Attempt) : Type 0 where
      pub issued : a.issued.now ≡ request_named n H
      pub named : a.issued.now.name ≡ n
      pub area_is : a.area ≡ area meaning mounted (request_named n H) H
      pub context : a.context ≡ start_place a.issued.now.start

    pub begins-again : (a b : Attempt) → ReplayTies meaning mounted entries done ran now (Some a) →
        b ≡ record a { context = start_place a.issued.now.start } → Begins b
    begins-again a b t e =
        let s = (standing t).1 in
        let named = again-named meaning mounted n H legal a.issued.now.name s.is in
        rw e (record {
          issued = s.request ∙ ap (λ x. request_named x H) named;
          named = named;
          area_is = again-area meaning mounted n H legal a s;
          context = refl;
        })

    pub begins-first : (a : Attempt) (k : ℕ) → ReplayTies meaning mounted entries done ran now None →
        ArrivesAt (take done entries) n k a.issued.now → a.area ≡ a.issued.now.area →
        a.context ≡ start_place a.issued.now.start → Begins a
    begins-first a k t at m p =
        let r = a.issued.now in
        let o = parts-at (take done entries) k (Arrive r) at.0 in
        let rev : before entries done ≡ reverse o.1 ++ Arrive r ∷ reverse o.0 = ap reverse o.2 ∙ reverse-append o.0 (Arrive r ∷ o.1)
        ∙ behind-one (reverse o.1) (Arrive r) o.1 (reverse o.0) refl in
        let f = facts meaning mounted H (earlier-legal legal) in
        let known = known-in (Known H) r (reverse o.1) (reverse o.0) (subst (λ x. Each (Known H) (arrivals x)) rev f.6) in
        let is : r ≡ request_named n H = sym (subst (λ (x : Name). request_named x H ≡ r) at.1 known.0) in
        record {
          issued = is;
          named = at.1;
          area_is = m ∙ ap (λ (x : Piece). x.area) is ∙ sym (first-area meaning mounted n H legal (standing t).1);
          context = p;
        }

    -- its seek fits the device
    pub begun-seeks : Lawful meaning → {attempt : Option Attempt} → ReplayTies meaning mounted entries done ran now attempt →
        (a : Attempt) → Begins a → fits meaning now a.issued.now.seek ≡ true
    begun-seeks law t a b =
        let k = start-seeks meaning mounted n H legal law in
        let d = (standing t).0 in let i = b.issued in
        rw (d, i) k

    -- and what stands behind the start
    pub begun : {attempt : Option Attempt} → ReplayTies meaning mounted entries done ran now attempt → (a : Attempt) → Begins a →
        (mask : ℕ) → mask ≡ mask_of a.issued.now.dcb (reverse entries) →
        (after_now : D) → after_now ≡ meaning.prefix now a.issued.now.seek mask →
        ReplayTies meaning mounted entries (done + 1) ran after_now (Some a)
    begun t a b mask mask_is after_now d =
        let i = b.issued in
        let opened = start-opened meaning mounted n H legal in
        let stays : mask ≡ mask_of (request_named n H).dcb H = mask_is ∙ ap (λ (r : Piece). mask_of r.dcb (reverse entries)) i
        ∙ mask-before meaning mounted (request_named n H).dcb entries done l opened in
        let moved : after_now ≡ meaning.prefix (device meaning mounted H) (request_named n H).seek (mask_of (request_named n H).dcb H) =
        d ∙ ap (λ x. meaning.prefix x a.issued.now.seek mask) (standing t).0
        ∙ ap (λ (r : Piece). meaning.prefix (device meaning mounted H) r.seek mask) i
        ∙ ap (meaning.prefix (device meaning mounted H) (request_named n H).seek) stays in
        ties-behind meaning mounted entries done (Start n) here l ran (whole-start t) after_now (Some a)
        (start-stands meaning mounted n H legal after_now a b.issued b.named b.area_is b.context moved)
