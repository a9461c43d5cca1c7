-- The laws of worlds: in a finished one each request that was sent has one post.
use Rattle.unit_book.proofs.Names.{◌≡◌, ◌≤◌, ℕ, ◌+◌, Bool, true, None, List, [], ◌∷◌, refl, ap, ◌∙◌, arith, inl, inr, cases_Bool, Meaning}
use Rattle.unit_book.proofs.Names.{Name, Entry, Post, same, arrivals, has_arrived, is_posted, waiting, active, Legal, Each}
use Rattle.unit_book.specs.Laws.{times}
use Rattle.unit_book.specs.World.{World, IsOpening, IsFinished, Reaches}
use Rattle.unit_book.specs.WorldLaws.{FinishedOnce, posts_of, KeepsRequests, WorldLaws}
use Rattle.unit_book.proofs.Lists.{no_both}
use Rattle.unit_book.proofs.Facts.{Known, Each-filter, Each-weaker}
use Rattle.unit_book.proofs.LegalFacts.{facts}
use Rattle.unit_book.proofs.TraceLaws.{not-of, posts-last}
use Rattle.unit_book.proofs.NameLaws.{one-place, few-starts}
use Rattle.unit_book.proofs.OrderLaws.{starts-in-order}
use Rattle.unit_book.proofs.DoomLaws.{no-doomed-starts}
use Rattle.unit_book.proofs.WorldSteps.{Kept, steps-kept}
use Rattle.unit_book.proofs.WorldOrder.{first-started}
use Rattle.std.proofs.lemmas.Grind.{common_steps}

module _ {D : Type 0} (meaning : Meaning D) where
  module _ (mounted : D) where
    -- a name has one post, if it is posted
    posts-once : (n : Name) (H : List Entry) → Legal meaning mounted H → posts_of n H ≡ times (is_posted n H)
    unfolding Legal
    posts-once n [] l = refl
    posts-once n (Post m csw sense code ∷ H) l =
        let ih = posts-once n H l.1 in
        elim (cases_Bool (same m n)) [
          | inl s ↦ elim (cases_Bool (is_posted n H)) [
            | inl p ↦ no_both (same m n) s
                (not-of meaning mounted n (Post m csw sense code) {H = H} (record { earlier = l.1; fits = l.0 }) p)
            | inr p ↦ let z : posts_of n H ≡ 0 = ih ∙ ap times p in rw s (omega (arith, z))
          ]
          | inr s ↦ rw s ih
        ]
    posts-once n (_ ∷ H) l = posts-once n H l.1

    -- what arrived and neither waits nor is active was posted
    arrived-posted : (n : Name) (H : List Entry) → Legal meaning mounted H → waiting H ≡ [] → active H ≡ None → has_arrived n H ≡ true →
        is_posted n H ≡ true
    arrived-posted n H l w a h =
        let one = one-place meaning mounted n H l h in
        let o : 0 + times (is_posted n H) ≡ 1 = rw (w, a) at one in
        elim (cases_Bool (is_posted n H)) [ inl p ↦ p | inr p ↦ absurd (clash (ap times p) o) ] where
          clash : {k : ℕ} → k ≡ 0 → 0 + k ≡ 1 → ⊥
          clash z u = omega (arith, z, u)

  -- in a finished trace each request that arrived has one post
  pub finished-once : FinishedOnce meaning
  finished-once mounted H l w a =
      Each-weaker (Known H) (λ r. posts_of r.name H ≡ 1)
      (λ r h. posts-once mounted r.name H l ∙ ap times (arrived-posted mounted r.name H l w a h.1))
      (arrivals H) (facts meaning mounted H l).6

  finished-posts : (w : World D) → Kept meaning w → IsFinished w → (task : ℕ) → Each (λ r. posts_of r.name w.book.trace ≡ 1) (w.sent task)
  finished-posts w k f task = grind (arith, common_steps, Each-filter, finished-once)

  worlds-keep : (first last : World D) → IsOpening meaning first → Reaches meaning first last → KeepsRequests meaning last
  worlds-keep first last o r =
      let k = steps-kept meaning first last o r in
      let once' = λ (n : Name). once (is_posted n last.book.trace) (posts-once last.book.mounted n last.book.trace k.legal) in
      assumption (first-started meaning last k, once', finished-posts last k) where
        once : {k : ℕ} (b : Bool) → k ≡ times b → k ≤ 1
        once v0 e = grind (arith, common_steps)

  pub world-laws : WorldLaws meaning
  world-laws = grind (arith, common_steps, worlds-keep, posts-last, one-place, starts-in-order, no-doomed-starts, few-starts)
