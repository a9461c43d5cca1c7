-- The posts of the swept requests, one after another.
use Rattle.unit_book.proofs.Names.{BookFields, ◌≡◌, ℕ, ◌+◌, ◌≤◌, Some, List, [], ◌∷◌, ◌++◌, append_assoc, length, length-append, map}
use Rattle.unit_book.proofs.Names.{sym, ap, ◌∙◌, arith, subst, slice_get, drop, Buffer, Purged, no_status, PostedState, Placed, Piece}
use Rattle.unit_book.proofs.Names.{Queue, queue, Entry, Post, Each, all_posted, purged, ◌-◌, Option, Meaning, Active, posted, Ties}
use Rattle.circular_buffer.specs.Buffer.{buffer}
use Rattle.std.proofs.Common.{take}
use Rattle.std.proofs.Math.Seq.{take-append_seam}
use Rattle.std.specs.Prelude.{IfSome}
use Rattle.unit_book.proofs.Dooms.{all_posted-push}
use Rattle.unit_book.proofs.Lists.{first-rest}
use Rattle.std.proofs.lemmas.List.{map-append}
use Rattle.std.proofs.lemmas.Grind.{common_steps}

-- where the posts of the swept requests are: what is left of the queue, the trace, what is out, and the room for entries
pub record PostingPlace : Type 0 where
  pub queue : Queue
  pub trace : List Entry
  pub out : Buffer PostedState
  pub spare : ℕ

-- after the first of the swept requests were posted
pub record Posting (start now : PostingPlace) : Type 0 where
  pub done : List Piece
  pub rest : List Piece
  pub whole : start.queue.pieces ≡ done ++ rest
  pub now_is : now.queue ≡ queue rest start.queue.capacity
  pub trace_is : now.trace ≡ all_posted done start.trace
  pub out_is : now.out ≡ buffer (start.out.items ++ map purged done) start.out.capacity
  pub spare_is : start.spare ≤ now.spare + length done
  pub placed : Each Placed rest

-- this request was the first, and was posted
pub record PostsNext (r : Piece) (now next : PostingPlace) : Type 0 where
  pub first : Some r ≡ slice_get now.queue.pieces 0
  pub queue_is : next.queue ≡ queue (drop 1 now.queue.pieces) now.queue.capacity
  pub trace_is : next.trace ≡ Post r.name no_status 0 Purged ∷ now.trace
  pub out_is : next.out ≡ buffer (now.out.items ++ purged r ∷ []) now.out.capacity
  pub spare_is : now.spare ≤ next.spare + 1

module _ {start now next : PostingPlace} {r : Piece} (s : Posting start now) (n : PostsNext r now next) where
  rest-is : s.rest ≡ r ∷ drop 1 s.rest
  rest-is = first-rest s.rest r (sym (n.first ∙ ap (λ (q : Queue). slice_get q.pieces 0) s.now_is))

  pub posting-next : Posting start next
  posting-next =
      let r1 = r ∷ [] in
      record {
        done = s.done ++ r1;
        rest = drop 1 s.rest;
        whole = s.whole ∙ ap (λ x. s.done ++ x) rest-is ∙ sym (append_assoc s.done r1 (drop 1 s.rest));
        now_is = n.queue_is ∙ ap (λ (q : Queue). queue (drop 1 q.pieces) q.capacity) s.now_is;
        trace_is = n.trace_is ∙ ap (λ x. Post r.name no_status 0 Purged ∷ x) s.trace_is ∙ sym (all_posted-push s.done r start.trace);
        out_is = n.out_is ∙ ap (λ (b : Buffer PostedState). buffer (b.items ++ purged r ∷ []) b.capacity) s.out_is
            ∙ ap (λ x. buffer x start.out.capacity)
            (append_assoc start.out.items (map purged s.done) (purged r ∷ [])
            ∙ ap (λ x. start.out.items ++ x) (sym (map-append purged s.done r1)));
        spare_is = omega (arith, n.spare_is, s.spare_is, length-append s.done r1);
        placed = (subst (Each Placed) rest-is s.placed).1;
      }

-- The posted values that were not yet taken.

pub length-rest : {X : Type 0} (xs : List X) → length (drop 1 xs) ≤ length xs
length-rest v0 = grind (arith, common_steps)

module _ {D : Type 0} (meaning : Meaning D) (mounted : D) where
  pub ties-taken : {held : BookFields D} {o : Option Active} →
      Ties meaning mounted held o → Ties meaning mounted (record held { out = drop 1 held.out }) o
  ties-taken {held} t = assumption (by_left held.out t.out.0 t.out.1) where
    by_left : (xs given : List PostedState) → given ++ xs ≡ posted meaning mounted held.trace →
        (before : List PostedState) × (before ++ drop 1 xs ≡ posted meaning mounted held.trace)
    by_left [] given e = (given, e)
    by_left (x ∷ xs) given e = (given ++ x ∷ [], append_assoc given (x ∷ []) xs ∙ e)

-- the values that were taken, and those that are out
taken-more : {X : Type 0} (given left : List X) (v : X) (rest : List X) → left ≡ v ∷ rest →
    take (length (given ++ left) - length (drop 1 left)) (given ++ left) ≡ given ++ v ∷ []
taken-more given left v rest e =
    let n : length (given ++ left) - length (drop 1 left) ≡ length (given ++ v ∷ []) = rw e
    (omega (arith, length-append given (v ∷ rest), length-append given (v ∷ []))) in
    let s : given ++ left ≡ (given ++ v ∷ []) ++ rest = ap (λ x. given ++ x) e ∙ sym (append_assoc given (v ∷ []) rest) in
    ap (λ k. take k (given ++ left)) n ∙ ap (take (length (given ++ v ∷ []))) s ∙ take-append_seam (given ++ v ∷ []) rest

-- the first of what is out is taken
pub given-more : {X : Type 0} (given left whole : List X) (v : X) → given ++ left ≡ whole → Some v ≡ slice_get left 0 →
    take (length whole - length (drop 1 left)) whole ≡ take (length whole - length left) whole ++ v ∷ []
given-more {X} given left whole v e f = grind (arith, common_steps, taken-more)

pub given-some : {X : Type 0} (given left whole : List X) (o : Option X) → given ++ left ≡ whole → o ≡ slice_get left 0 →
    IfSome o (λ v. take (length whole - length (drop 1 left)) whole ≡ take (length whole - length left) whole ++ v ∷ [])
given-some given left whole v3 e f = grind (arith, common_steps, given-more)
