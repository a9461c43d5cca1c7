use Rattle.std.proofs.Common.{◌≡◌, map, take}
use Rattle.std.specs.Prelude.{option_map}
use Rattle.medium_image.specs.Images.{image_size}
use Rattle.job_media.proofs.units.sizes_of.Given as goal

abbrev pub invariant-loop-image : goal.invariant-loop-image
invariant-loop-image l = l.sizes.items ≡ map (option_map image_size) (take l.image-index l.images)
