-- A post is found by its name, in a list of posts and in the lines of a task.
use Rattle.unit_book.proofs.Names.{◌≡◌, ◌==◌, ◌+◌, ◌&&◌, ◌||◌, ℕ, Bool, true, false, Option, Some, None, List, [], ◌∷◌, ◌++◌}
use Rattle.unit_book.proofs.Names.{if◌then◌else◌, map, refl, sym, ap, ◌∙◌, inl, inr}
use Rattle.unit_book.proofs.Names.{cases_Bool, list_any, Name, Piece, PostedState, same}
use Rattle.unit_book.proofs.Lists.{find-passes, same-is, same-true}
use Rattle.serial_order.specs.Laws.{value_of}
use Rattle.fifo_row.specs.Lists.{of_sender}
use Rattle.excp_system.specs.Sites.{for_task}
use Rattle.job_script.specs.Said.{ExcpSaid}
use Rattle.job_run.specs.Printing.{excp_text, excps_text, first_numbered}

own : (n : Name) (v : PostedState) (vs : List PostedState) → same v.name n ≡ true → value_of n (v ∷ vs) ≡ Some v
own n v vs s = rw s refl

other : (n : Name) (v : PostedState) (vs : List PostedState) → same v.name n ≡ false → value_of n (v ∷ vs) ≡ value_of n vs
other n v vs s = rw s refl

-- A NAME HAS THE SAME POST in two lists: the one has the post of each of these requests, found by its name, and the other has
-- these posts in the order of the requests
pub same_posts : (rs : List Piece) (ps vs : List PostedState) (n : Name) → map (λ r. value_of r.name ps) rs ≡ map Some vs →
    (list_any (λ r. same r.name n) rs ≡ false → value_of n ps ≡ None) → value_of n ps ≡ value_of n vs
same_posts [] ps [] n each none = none refl
same_posts [] ps (v ∷ vs) n each none = absurd cc
same_posts (r ∷ rs) ps [] n each none = absurd cc
same_posts (r ∷ rs) ps (v ∷ vs) n each none =
    let head : value_of r.name ps ≡ Some v = cc in
    let tail : map (λ (x : Piece). value_of x.name ps) rs ≡ map Some vs = cc in
    let named : v.name ≡ r.name = same-true v.name r.name (find-passes (λ (p : PostedState). same p.name r.name) ps v head) in
    elim (cases_Bool (same r.name n)) [
      | inl s ↦
          let is : r.name ≡ n = same-true r.name n s in
          ap (λ (x : Name). value_of x ps) (sym is) ∙ head ∙ sym (own n v vs (same-is v.name n (named ∙ is)))
      | inr s ↦
          same_posts rs ps vs n tail (λ k. none (ap (λ (b : Bool). b || list_any (λ x. same x.name n) rs) s ∙ k))
          ∙ sym (other n v vs (ap (λ (x : Name). same x n) named ∙ s))
    ]

by_task : (b : Bool) (k : ℕ) (p : PostedState) (ps : List PostedState) (o : Option PostedState) → first_numbered k ps ≡ o →
    first_numbered k (if b then p ∷ ps else ps) ≡ (if b && (p.name.seq == k) then Some p else o)
by_task true k p ps o is = ap (λ (x : Option PostedState). if p.name.seq == k then Some p else x) is
by_task false k p ps o is = is

-- the first of a task's posts with a number is the one of this name
pub first_named : (task k : ℕ) (ps : List PostedState) →
    first_numbered k (of_sender for_task task ps) ≡ value_of (record { task = task; seq = k }) ps
first_named task k [] = refl
first_named task k (p ∷ ps) =
    by_task (p.name.task == task) k p (of_sender for_task task ps) (value_of (record { task = task; seq = k }) ps) (first_named task k ps)

-- the lines are the same if each number has the same post
pub same_lines : (task unit k : ℕ) (es : List ExcpSaid) (ps vs : List PostedState) →
    ((n : ℕ) → first_numbered n ps ≡ first_numbered n vs) → excps_text task unit k es ps ≡ excps_text task unit k es vs
same_lines task unit k [] ps vs same_post = refl
same_lines task unit k (e ∷ es) ps vs same_post =
    ap (λ (o : Option PostedState). excp_text task unit k e o ++ excps_text task unit (k + 1) es ps) (same_post k)
    ∙ ap (λ (l : List ℕ). excp_text task unit k e (first_numbered k vs) ++ l) (same_lines task unit (k + 1) es ps vs same_post)
