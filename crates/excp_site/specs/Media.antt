-- WHAT A PUT ADDS to the medium of the next unit (profile).
use Rattle.std.specs.Prelude.{◌≡◌, ℕ, List, [], ◌∷◌, ◌++◌}
use Rattle.ckd_disk.specs.declared.mount.InitialRecord.{InitialRecord}
use Rattle.tape_unit.specs.declared.mount.InitialItem.{InitialItem}
use Rattle.tape_unit.specs.Item.{Item}
use Rattle.tape_unit.specs.Mount.{initial}
use Rattle.excp_site.specs.declared.medium.Medium.{Medium}

-- a record with these numbers, this key and these data comes after the others
pub record PutsRecord (old : List InitialRecord) (cylinder head number : ℕ) (key content : List ℕ) (new : List InitialRecord) : Type 0 where
  pub one : InitialRecord
  pub cylinder_is : one.cylinder ≡ cylinder
  pub head_is : one.head ≡ head
  pub number_is : one.number ≡ number
  pub key_is : one.key.items ≡ key
  pub content_is : one.content.items ≡ content
  pub is : new ≡ old ++ one ∷ []

-- an item that lies on the tape so comes after the others
pub record PutsItem (old : List InitialItem) (item : Item) (new : List InitialItem) : Type 0 where
  pub one : InitialItem
  pub item_is : initial one ≡ item
  pub is : new ≡ old ++ one ∷ []

-- nothing was put
pub record IsEmpty (m : Medium) : Type 0 where
  pub records : m.records.items ≡ []
  pub items : m.items.items ≡ []
  pub faults : m.faults.items ≡ []
