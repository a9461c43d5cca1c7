use Rattle.std.proofs.Common.{◌≡◌, ◌<◌, ◌≤◌, ◌-◌, length}
use Rattle.excp_site.specs.Serving.{Serves}
use Rattle.excp_site.proofs.site.Site.serve.Given as goal

abbrev pub invariant-loop : goal.invariant-loop
invariant-loop l = record {
  some : 1 ≤ l.left;
  most : l.left ≤ l.max;
  few : l.posts ≤ l.counter;
  there : l.unit < length l.self.plain.units;
  serves : Serves l.fn.self.plain l.unit l.posts (l.max - l.left) l.self.plain;
  rest : l.self ≡ record l.fn.self { plain = l.self.plain };
}
