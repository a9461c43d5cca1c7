use Rattle.std.proofs.Common.{◌++◌, ◌∷◌, ◌∙◌, [], ap, rules, refl}
use Rattle.ckd_disk.specs.declared.mount.InitialRecord.{InitialRecord}
use Rattle.excp_site.specs.Sites.{SiteView}
use Rattle.excp_site.proofs.site.Site.put_record.Goals as goal

pub returns-clause-ok : goal.returns-clause-ok
returns-clause-ok c =
    let one : InitialRecord = record {
      cylinder = c.args.cylinder;
      head = c.args.head;
      number = c.args.number;
      key = c.in_ok-to_vec.field-0;
      content = c.in_ok-to_vec-2.field-0;
    } in
    record {
      one = one;
      cylinder_is = refl;
      head_is = refl;
      number_is = refl;
      key_is = search rules;
      content_is = search rules;
      is = c.in_ok-push.ensures.items ∙ ap (λ (v : SiteView). v.medium.records.items ++ one ∷ []) c.self.view_is;
    }
