use Rattle.std.proofs.Common.{rules, ◌≡◌, ◌≤◌, ◌-◌, ◌+◌, ◌++◌, ◌∷◌, [], suc, List, ℕ, length, append-nil, refl, ap, arith, ◌∙◌, subst, replicate}
use Rattle.std.specs.Fmt.{decimal}
use Rattle.std.specs.Prelude.{OnErr, OnOk, codes}
use Rattle.std.specs.Io.KnownBytes.{Appends}
use Rattle.post_lines.specs.Writing.{AppendsPart}
use Rattle.post_lines.specs.Lines.{end_text}
use Rattle.post_lines.proofs.Blank.{Blank, blank_one, blank_put, begun, from_end}
use Rattle.post_lines.proofs.post.write_head.Goals as goal

pub returns : goal.returns
returns g c =
    let end : List ℕ = end_text c.args.end.now in
    let n = c.put_decimal-number.result in
    let u = c.put_decimal-unit.result in
    let t = c.put_decimal-task.result in
    let n_le : n ≤ 70 = omega (arith, c.put_decimal-number.ensures.start) in
    let u_le : u ≤ n - 1 = omega (arith, c.put_decimal-unit.ensures.start) in
    let t_le : t ≤ u - 1 = omega (arith, c.put_decimal-task.ensures.start) in
    let n_is : n ≡ suc (n - 1) = omega (arith, c.put_decimal-number.ensures.few) in
    let u_is : u ≡ suc (u - 1) = omega (arith, n_is, c.put_decimal-number.ensures.few, c.put_decimal-unit.ensures.few) in
    let r1 : List ℕ = 32 ∷ end in
    let r2 : List ℕ = 32 ∷ (decimal c.args.number ++ r1) in
    let r3 : List ℕ = 32 ∷ (decimal c.args.unit ++ r2) in
    let text : List ℕ = replicate 71 32 ++ (c.put_end.new.text ++ []) in
    let b0 : Blank text 71 end = record { is = ap (λ (l : List ℕ). replicate 71 32 ++ l) (append-nil c.put_end.new.text ∙ c.put_end.ensures) } in
    let b1 = blank_put text c.put_decimal-number.new.text n 70 r1 (decimal c.args.number) (blank_one text 70 71 end b0 refl) n_le
    c.put_decimal-number.ensures.written c.put_decimal-number.ensures.before in
    let b2 = blank_put c.put_decimal-number.new.text c.put_decimal-unit.new.text u (n - 1) r2 (decimal c.args.unit) (blank_one _ (n - 1) n _ b1 n_is) u_le
    c.put_decimal-unit.ensures.written c.put_decimal-unit.ensures.before in
    let b3 = blank_put c.put_decimal-unit.new.text c.put_decimal-task.new.text t (u - 1) r3 (decimal c.args.task) (blank_one _ (u - 1) u _ b2 u_is) t_le
    c.put_decimal-task.ensures.written c.put_decimal-task.ensures.before in
    let start : ℕ = t - 5 in
    let size : length c.put_decimal-task.new.text ≡ 96 = search rules in
    let at : t ≡ start + 5 =
    omega (arith, n_is, u_is, c.put_decimal-number.ensures.few, c.put_decimal-unit.ensures.few, c.put_decimal-task.ensures.few) in
    let word = c.copy_from_slice.new.self in
    let four : length word ≡ 4 = ap (λ (l : List ℕ). length l) c.copy_from_slice.ensures.after in
    let r4 : List ℕ = decimal c.args.task ++ r3 in
    let old = g.W.Write.contents c.args.out.now in
    let new = g.W.Write.contents c.write_text.new.out in
    let made =
    begun c.put_decimal-task.new.text word r4 start t (start + 4 - start) (96 - start) b3 at (omega arith) four (omega (arith, size, at, t_le, u_le, n_le))
    ∙ ap (λ (l : List ℕ). l ++ 32 ∷ r4) c.copy_from_slice.ensures.after
    ∙ from_end (codes "post ") (decimal c.args.task) (decimal c.args.unit) (decimal c.args.number) end in
    record {
      whole = subst (λ (l : List ℕ). OnOk c.write_text.result (Appends old new l)) made c.write_text.ensures.whole;
      part = subst (λ (l : List ℕ). OnErr c.write_text.result (AppendsPart old new l)) made c.write_text.ensures.part;
    }
