-- Laws of legal traces.
use Rattle.unit_book.proofs.Names.{◌≡◌, Bool, true, false, Some, List, [], ◌∷◌, ◌++◌, refl, sym, ap, ◌∙◌, or_left, or_right}
use Rattle.unit_book.proofs.Names.{list_any, Meaning, Name, Entry, Arrive, Start, Ran, Halted, Post, same, is_posted, active, Due, ToHalt}
use Rattle.unit_book.proofs.Names.{ToPost, Free, due, FitsBy, Legal, StartFits, First, Again, arith}
use Rattle.std.proofs.lemmas.List.Folds.{list_any-append}
use Rattle.unit_book.specs.Laws.{PostsLast, is_of_name}
use Rattle.unit_book.proofs.Lists.{same-refl}
use Rattle.unit_book.proofs.Facts.{Facts, active-is, fits-freely, fresh, new-name, post-whom, PostOf, due-halt}
use Rattle.unit_book.proofs.LegalFacts.{Comes, facts, first-named}
use Rattle.std.proofs.lemmas.Grind.{common_steps}

-- what is active is not posted
unposted : (n m : Name) (H : List Entry) → is_posted n H ≡ true → is_posted m H ≡ false → same m n ≡ false
unposted n m H p q = grind (arith, common_steps)

whom-unposted : (m : Name) (H : List Entry) → PostOf m H → is_posted m H ≡ false
whom-unposted m v1 v2 = grind (arith, common_steps, active-is)

-- what an older part has, the whole has
pub any-later : (p : Entry → Bool) (later earlier : List Entry) → list_any p earlier ≡ true → list_any p (later ++ earlier) ≡ true
any-later p later earlier h = list_any-append p later earlier ∙ or_right (list_any p later) (list_any p earlier) h

module _ {D : Type 0} (meaning : Meaning D) (mounted : D) where
  pub start-unposted : (m : Name) (H : List Entry) → Facts H → StartFits meaning mounted m H → is_posted m H ≡ false
  start-unposted m H f (First s) = (first-named H f s.first s.name).unposted
  start-unposted m H f (Again s) = (active-is m H s.active).1

  halted-active : (m : Name) (H : List Entry) (d : Due) → d ≡ due meaning mounted H → FitsBy meaning mounted d (Halted m) H →
      active H ≡ Some m
  halted-active m H (ToHalt k) e h = let q : k ≡ m = cc in (due-halt meaning mounted H m (sym e ∙ ap ToHalt q)).0
  halted-active m H (ToPost k) e h = absurd cc
  halted-active m H Free e h = absurd h

  -- an entry that fits is not of a posted name
  pub not-of : (n : Name) (e : Entry) {H : List Entry} → Comes meaning mounted e H → is_posted n H ≡ true → is_of_name n e ≡ false
  not-of n (Arrive r) {H} c p =
      let f = facts meaning mounted H c.earlier in
      new-name r n H (fresh r H f (fits-freely meaning mounted (Arrive r) H refl c.fits).1) (f.1 n p)
  not-of n (Start m) {H} c p = unposted n m H p
      (start-unposted m H (facts meaning mounted H c.earlier) (fits-freely meaning mounted (Start m) H refl c.fits).1)
  not-of n (Ran m j) {H} c p = unposted n m H p (active-is m H (fits-freely meaning mounted (Ran m j) H refl c.fits).1.active).1
  not-of n (Halted m) {H} c p = unposted n m H p (active-is m H (halted-active m H (due meaning mounted H) refl c.fits)).1
  not-of n (Post m csw sense code) {H} c p = unposted n m H p
      (whom-unposted m H (post-whom meaning mounted (record { csw = csw; sense = sense }) code (facts meaning mounted H c.earlier) c.fits))
  not-of n _ c p = refl

  none-later : (n : Name) (later earlier : List Entry) → is_posted n earlier ≡ true → Legal meaning mounted (later ++ earlier) →
      list_any (is_of_name n) later ≡ false
  unfolding Legal
  none-later n [] earlier p l = refl
  none-later n (e ∷ later) earlier p l = grind (arith, common_steps, not-of, none-later n later earlier p l.1)

pub posts-last : {D : Type 0} (meaning : Meaning D) → PostsLast meaning
posts-last meaning mounted n csw sense code later earlier l =
    none-later meaning mounted n later (Post n csw sense code ∷ earlier) (or_left (same n n) (is_posted n earlier) (same-refl n)) l
