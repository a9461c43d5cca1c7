-- What mounting makes of a medium is the device that the lines of the unit say.
use Rattle.std.proofs.Common.{◌≡◌, ℕ, Bool, true, false, nat_le, ◌&&◌, cond, ◌+◌, ◌*◌, ◌/◌, ◌%◌, List, [], ◌∷◌, map, Ok, Err, refl, sym, ap}
use Rattle.std.proofs.Common.{◌∙◌}
use Rattle.std.specs.List.{filter, list_all, range_with_len}
use Rattle.std.proofs.lemmas.List.Folds.{list_all-map}
use Rattle.device_port.specs.declared.device.MountError.{MountError}
use Rattle.device_port.specs.declared.device.MountError.TheVariants.{BadGeometry, BadMedium, NoMemory}
use Rattle.device_port.specs.declared.faults.Fault.{Fault}
use Rattle.device_port.specs.Faults.{is_script}
use Rattle.ckd_disk.specs.declared.mount.Geometry.{Geometry}
use Rattle.ckd_disk.specs.declared.mount.InitialRecord.{InitialRecord}
use Rattle.ckd_disk.specs.Record.{Record}
use Rattle.ckd_disk.specs.Track.{TrackState, bytes_of as bytes_of_records}
use Rattle.ckd_disk.specs.Disk.{DiskState, at_start}
use Rattle.ckd_disk.specs.Mount.{initial, is_geometry, opening, opening_records, opening_track, stands_on, track_count, track_descriptor}
use Rattle.ckd_disk.specs.Mount.{has_room as has_room_on, is_medium, Mounts as MountsDisk}
use Rattle.tape_unit.specs.declared.mount.InitialItem.{InitialItem}
use Rattle.tape_unit.specs.Item.{is_item}
use Rattle.tape_unit.specs.Reel.{bytes_of as bytes_of_items}
use Rattle.tape_unit.specs.Tape.{TapeState}
use Rattle.tape_unit.specs.Mount.{is_size, initial as item_of, is_medium as is_tape_medium, Mounts as MountsTape}
use Rattle.line_printer.specs.Printer.{PrinterState}
use Rattle.line_printer.specs.Mount.{is_paper, opening as opening_printer, Mounts as MountsPrinter}
use Rattle.any_device.specs.declared.device.AnyDevice.{AnyDevice}
use Rattle.any_device.specs.declared.device.AnyDevice.TheVariants.{Disk, Tape, Printer}
use Rattle.job_script.specs.Said.{disk, printer, tape}
use Rattle.job_script.specs.Views.{record_said}
use Rattle.job_mount.specs.Devices.{disk_with, fits_disk, fits_tape, track_has_room, if_mountable, is_record, lies_on, mounted, record_on}
use Rattle.job_mount.specs.Devices.{records_on, tape_with, track_with}
use Rattle.job_mount.specs.Outcomes.{MountsDevice}

kept : {A B C : Type 0} (f : A → C) (g : B → C) (b : Bool) (x : A) (y : B) (xs : List A) (ys : List B)
    → f x ≡ g y → map f xs ≡ map g ys → map f (cond b (x ∷ xs) xs) ≡ map g (cond b (y ∷ ys) ys)
kept f g true x y xs ys e h = ap (λ z. z ∷ map f xs) e ∙ ap (λ zs. g y ∷ zs) h
kept f g false x y xs ys e h = h

on_track : (g : Geometry) (t : ℕ) (rs : List InitialRecord)
    → map record_on (filter (lies_on g t) (map record_said rs)) ≡ map initial (filter (stands_on g t) rs)
on_track g t [] = refl
on_track g t (r ∷ rs) =
    kept record_on initial (stands_on g t r) (record_said r) r (filter (lies_on g t) (map record_said rs)) (filter (stands_on g t) rs) refl
    (on_track g t rs)

same_records : (g : Geometry) (rs : List InitialRecord) (t : ℕ) → records_on g (map record_said rs) t ≡ opening_records g rs t
same_records g rs t = ap (λ (l : List Record). track_descriptor (t / g.heads) (t % g.heads) ∷ l) (on_track g t rs)

same_room : (g : Geometry) (all rs : List InitialRecord)
    → list_all (track_has_room g (map record_said all)) (map record_said rs) ≡ list_all (has_room_on g all) rs
same_room g all [] = refl
same_room g all (r ∷ rs) =
    ap (λ (l : List Record). nat_le (bytes_of_records l) g.track_bytes && list_all (track_has_room g (map record_said all))
    (map record_said rs))
    (same_records g all (r.cylinder * g.heads + r.head))
    ∙ ap (λ (b : Bool). has_room_on g all r && b) (same_room g all rs)

same_fit : (g : Geometry) (rs : List InitialRecord) (faults : List Fault) → fits_disk g (map record_said rs) faults ≡ is_medium g rs faults
same_fit g rs faults =
    ap (λ (b : Bool). is_script faults && list_all (is_record g) (map record_said rs) && b) (same_room g rs rs)
    ∙ ap (λ (b : Bool). is_script faults && b && list_all (has_room_on g rs) rs) (list_all-map (is_record g) record_said rs)

same_tracks : (g : Geometry) (rs : List InitialRecord) (ns : List ℕ) →
    map (track_with g (map record_said rs)) ns ≡ map (opening_track g rs) ns
same_tracks g rs [] = refl
same_tracks g rs (n ∷ ns) =
    ap (λ (l : List Record). record { size = g.track_bytes; records = l } ∷ map (track_with g (map record_said rs)) ns)
    (same_records g rs n)
    ∙ ap (λ (ts : List TrackState). opening_track g rs n ∷ ts) (same_tracks g rs ns)

same_disk : (g : Geometry) (rs : List InitialRecord) (faults : List Fault) → disk_with g (map record_said rs) faults ≡ opening g rs faults
same_disk g rs faults = ap
    (λ (ts : List TrackState). record {
      cylinders = g.cylinders;
      heads = g.heads;
      tracks = ts;
      track = 0;
      access = at_start 0;
      ordinals = record { script = faults; done = 0 };
    })
    (same_tracks g rs (range_with_len 0 (track_count g)))

-- a device that passes both tests, or fails one
passes : (a b : Bool) (d e : AnyDevice) → a ≡ true → b ≡ true → d ≡ e → if_mountable (a && b) d ≡ Ok e
passes a b d e p q same = rw (p, q, same) refl

fails_first : (a b : Bool) (d : AnyDevice) → a ≡ false → MountsDevice (if_mountable (a && b) d) (Err BadGeometry)
fails_first a b d p = rw p refl

fails_second : (a b : Bool) (d : AnyDevice) → a ≡ true → b ≡ false → MountsDevice (if_mountable (a && b) d) (Err BadMedium)
fails_second a b d p q = rw (p, q) refl

pub disk_mounted : (g : Geometry) (rs : List InitialRecord) (faults : List Fault) (d : DiskState)
    → MountsDisk g rs faults (Ok d) → mounted (disk g (map record_said rs)) faults ≡ Ok (Disk d)
disk_mounted g rs faults d (p, q, same) =
    passes (is_geometry g) (fits_disk g (map record_said rs) faults) (Disk (disk_with g (map record_said rs) faults)) (Disk d)
    p (same_fit g rs faults ∙ q) (ap Disk (same_disk g rs faults ∙ sym same))

pub disk_refused : (g : Geometry) (rs : List InitialRecord) (faults : List Fault) (e : MountError)
    → MountsDisk g rs faults (Err e) → MountsDevice (mounted (disk g (map record_said rs)) faults) (Err e)
disk_refused g rs faults BadGeometry p = fails_first (is_geometry g) (fits_disk g (map record_said rs) faults) _ p
disk_refused g rs faults BadMedium (p, q) =
    fails_second (is_geometry g) (fits_disk g (map record_said rs) faults) _ p (same_fit g rs faults ∙ q)
disk_refused g rs faults NoMemory h = tt

same_items : (bytes : ℕ) (items : List InitialItem) (faults : List Fault)
    → fits_tape bytes (map item_of items) faults ≡ is_tape_medium bytes items faults
same_items bytes items faults =
    ap (λ (b : Bool). is_script faults && b && nat_le (bytes_of_items (map item_of items)) bytes) (list_all-map is_item item_of items)

pub tape_mounted : (bytes : ℕ) (items : List InitialItem) (faults : List Fault) (t : TapeState)
    → MountsTape bytes items faults (Ok t) → mounted (tape bytes (map item_of items)) faults ≡ Ok (Tape t)
tape_mounted bytes items faults t (p, q, same) =
    passes (is_size bytes) (fits_tape bytes (map item_of items) faults) (Tape (tape_with bytes (map item_of items) faults)) (Tape t)
    p (same_items bytes items faults ∙ q) (ap Tape (sym same))

pub tape_refused : (bytes : ℕ) (items : List InitialItem) (faults : List Fault) (e : MountError)
    → MountsTape bytes items faults (Err e) → MountsDevice (mounted (tape bytes (map item_of items)) faults) (Err e)
tape_refused bytes items faults BadGeometry p = fails_first (is_size bytes) (fits_tape bytes (map item_of items) faults) _ p
tape_refused bytes items faults BadMedium (p, q) =
    fails_second (is_size bytes) (fits_tape bytes (map item_of items) faults) _ p (same_items bytes items faults ∙ q)
tape_refused bytes items faults NoMemory h = tt

pub printer_mounted : (lines pages : ℕ) (faults : List Fault) (p : PrinterState)
    → MountsPrinter lines pages faults (Ok p) → mounted (printer lines pages) faults ≡ Ok (Printer p)
printer_mounted lines pages faults d (p, q, same) =
    passes (is_paper lines pages) (is_script faults) (Printer (opening_printer lines pages faults)) (Printer d) p q (ap Printer (sym same))

pub printer_refused : (lines pages : ℕ) (faults : List Fault) (e : MountError)
    → MountsPrinter lines pages faults (Err e) → MountsDevice (mounted (printer lines pages) faults) (Err e)
printer_refused lines pages faults BadGeometry p = fails_first (is_paper lines pages) (is_script faults) _ p
printer_refused lines pages faults BadMedium (p, q) = fails_second (is_paper lines pages) (is_script faults) _ p q
printer_refused lines pages faults NoMemory h = tt
