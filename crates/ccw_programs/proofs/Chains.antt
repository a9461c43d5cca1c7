-- A chain put together one CCW after another.
use Rattle.std.proofs.Common.{◌≡◌, ℕ, suc, ◌+◌, ◌-◌, ◌<◌, List, [], ◌∷◌, ◌++◌, refl, ap, arith, ◌∙◌, Bool, true, false, sym, length}
use Rattle.std.proofs.Common.{length-append}
use Rattle.io_images.specs.declared.ccw.Ccw.{Ccw}
use Rattle.ccw_programs.specs.declared.fetch.Fetch.{Fetch}
use Rattle.ccw_programs.specs.declared.fetch.Fetch.TheVariants.{Refused, Transfer, More, Last}
use Rattle.io_area.specs.Storage.{Storage}
use Rattle.ccw_programs.specs.declared.fetch.Link.{Link}
use Rattle.ccw_programs.specs.declared.rule.Rule.{Rule}
use Rattle.ccw_programs.specs.declared.rule.Rule.TheVariants.{FetchLimit}
use Rattle.ccw_programs.specs.Links.{Fetched, Whole, Broken, after_ccw, behind_all, broken_at, chain_by, chain_within, fetch_at, rule_at}

pub behind_all-append : (ls : List Link) (l : Link) (c : Fetched) → behind_all (ls ++ l ∷ []) c ≡ behind_all ls (after_ccw l c)
behind_all-append [] l c = refl
behind_all-append (k ∷ ls) l c = ap (after_ccw k) (behind_all-append ls l c)

pub behind_all-whole : (ls ks : List Link) (n : ℕ) → behind_all ls (Whole ks n) ≡ Whole (ls ++ ks) n
behind_all-whole [] ks n = refl
behind_all-whole (k ∷ ls) ks n = ap (after_ccw k) (behind_all-whole ls ks n)

pub behind_all-broken : (ls : List Link) (at : ℕ) (rule : Rule) →
    behind_all ls (broken_at at rule) ≡ Broken ls (record { at = at; rule = rule })
behind_all-broken [] at rule = refl
behind_all-broken (k ∷ ls) at rule = ap (after_ccw k) (behind_all-broken ls at rule)

-- one fetch of the chain
pub chain_within-next : (m : Storage) (done : ℕ) (may : Bool) (place at : ℕ) → done < 4096 →
    chain_within m (4096 - done) may place at ≡
    chain_by (fetch_at m may place at) (rule_at m may place at) at place (done + 1)
    (λ may' next to. chain_within m (4096 - (done + 1)) may' next to)
unfolding chain_within
chain_within-next m done may place at h =
    let e : 4096 - done ≡ suc (4096 - (done + 1)) = omega arith in
    let f : 4096 - (4096 - (done + 1)) ≡ done + 1 = omega arith in
    rw (e, f) refl

pub chain_within-none : (m : Storage) (done : ℕ) (may : Bool) (place at : ℕ) → 4096 - done ≡ 0 →
    chain_within m (4096 - done) may place at ≡ broken_at at FetchLimit
unfolding chain_within
chain_within-none m done may place at h = rw h refl

-- the next fetch, behind what has been fetched
module _ (m : Storage) (whole : Fetched) (links : List Link) (done : ℕ) (may : Bool) (at place : ℕ)
    (more : done < 4096) (here : place ≡ length links)
    (so_far : whole ≡ behind_all links (chain_within m (4096 - done) may (length links) at)) where
  next_fetch : (f : Fetch) → f ≡ fetch_at m may place at →
      whole ≡ behind_all links
      (chain_by f (rule_at m may place at) at (length links) (done + 1)
      (λ may' next to. chain_within m (4096 - (done + 1)) may' next to))
  next_fetch f h = so_far ∙ ap (behind_all links) (chain_within-next m done may (length links) at more)
      ∙ ap (λ k. behind_all links
      (chain_by k (rule_at m may (length links) at) at (length links) (done + 1)
      (λ may' next to. chain_within m (4096 - (done + 1)) may' next to)))
      (rw (← here) (sym h))
      ∙ ap (λ k. behind_all links
      (chain_by f (rule_at m may k at) at (length links) (done + 1) (λ may' next to. chain_within m (4096 - (done + 1)) may' next to)))
      (sym here)

  pub refused : Refused ≡ fetch_at m may place at → whole ≡ Broken links (record { at = at; rule = rule_at m may place at })
  refused h = next_fetch Refused h ∙ behind_all-broken links at (rule_at m may place at)

  pub transferred : (to : ℕ) → Transfer to ≡ fetch_at m may place at →
      whole ≡ behind_all links (chain_within m (4096 - (done + 1)) false (length links) to)
  transferred to h = next_fetch (Transfer to) h

  pub last : (ccw : Ccw) → Last ccw ≡ fetch_at m may place at → whole ≡ Whole (links ++ record { at = at; ccw = ccw } ∷ []) (done + 1)
  last ccw h = next_fetch (Last ccw) h ∙ behind_all-whole links _ (done + 1)

  pub one_more : (ccw : Ccw) → More ccw ≡ fetch_at m may place at →
      whole ≡ behind_all (links ++ record { at = at; ccw = ccw } ∷ [])
      (chain_within m (4096 - (done + 1)) true (length (links ++ record { at = at; ccw = ccw } ∷ [])) (at + 8))
  one_more ccw h =
      let e : length (links ++ record { at = at; ccw = ccw } ∷ []) ≡ suc (length links) =
      omega (arith, length-append links (record { at = at; ccw = ccw } ∷ [])) in
      rw (e, behind_all-append links) (next_fetch (More ccw) h)
