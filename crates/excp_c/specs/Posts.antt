-- A POST as C sees it: `excp_post` of c/excp.h.
use Rattle.std.specs.Prelude.{length}
use Rattle.io_images.specs.Codes.{code_byte}
use Rattle.request_piece.specs.PostedState.{PostedState}
use Rattle.excp_site.specs.Numbers.{count_of}
use Rattle.excp_site.specs.Sites.{SiteView, number_of}
use Rattle.excp_c.specs.declared.posts.Post.{Post}

abbrev pub post_of : SiteView → PostedState → Post
post_of s p = record {
  number = number_of s p.unit p.name;
  address = p.csw.address;
  base = p.area.base;
  length = count_of (length p.area.bytes);
  residual = p.csw.residual;
  sense = p.sense;
  unit = p.unit;
  task = p.name.task;
  dcb = p.dcb;
  code = code_byte p.code;
  unit_status = p.csw.unit.0;
  channel_status = p.csw.sub.0;
}
