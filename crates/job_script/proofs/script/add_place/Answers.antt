use Rattle.std.proofs.Common.{rules, ◌≡◌, ◌<◌, ℕ, ◌++◌, ◌∷◌, [], length, refl, ap, ◌∙◌}
use Rattle.std.specs.Prelude.{slice_set}
use Rattle.std.specs.Global.{Vec}
use Rattle.job_script.specs.Tasks.{list_of}
use Rattle.job_script.proofs.Grouping.{list_of-add, list_of-keep}
use Rattle.job_script.proofs.script.add_place.Goals as goal

pub returns-in_err-push-clause-same : goal.returns-in_err-push-clause-same
returns-in_err-push-clause-same c =
    let lists = c.lengthen.new.lists.items in
    let within : c.args.number < length lists = search rules in
    let list = c.index_mut.result.now in
    let is = c.in_err-push.ensures.items ∙ ap (λ (v : Vec ℕ). v.items) c.index_mut.ensures.value in
    let same : (k : ℕ) → list_of (slice_set lists c.args.number c.push.new.self) k ≡ list_of c.args.lists.now.items k =
    λ k. list_of-keep lists c.args.number c.push.new.self list within is k ∙ c.lengthen.ensures.same k in
    search (rules, same)

pub returns-clause-added : goal.returns-clause-added
returns-clause-added c =
    let lists = c.lengthen.new.lists.items in
    let within : c.args.number < length lists = search rules in
    let list = c.index_mut.result.now in
    let is = c.in_ok-push.ensures.items ∙ ap (λ (v : Vec ℕ). v.items ++ c.args.place ∷ []) c.index_mut.ensures.value in
    λ k. list_of-add lists c.args.number c.args.place c.push.new.self list within is k
    ∙ rw (c.lengthen.ensures.same k) refl
