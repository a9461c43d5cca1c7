-- The sizes of images.
use Rattle.std.specs.Prelude.{◌/◌, length}
use Rattle.ckd_disk.specs.declared.mount.Geometry.{Geometry}
use Rattle.ckd_disk.specs.Volume.{VolumeState}
use Rattle.tape_unit.specs.Reel.{bytes_of}
use Rattle.medium_image.specs.declared.image.Image.{Image}
use Rattle.medium_image.specs.declared.image.Image.TheVariants.{Disk, Tape}
use Rattle.medium_image.specs.declared.image.Size.{Size}
use Rattle.medium_image.specs.declared.image.Size.TheVariants as size

-- the geometry of a volume of whole cylinders
abbrev pub geometry_of : VolumeState → Geometry
geometry_of v = record { cylinders = length v.tracks / v.heads; heads = v.heads; track_bytes = v.track_bytes }

-- THE SIZE of an image's medium: a tape has the bytes that its items take
abbrev pub image_size : Image → Size
image_size (Disk image) = size.Disk (geometry_of image.volume)
image_size (Tape image) = size.Tape (bytes_of image.tape.items)
