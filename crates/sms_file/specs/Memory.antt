-- What a folder in memory has had.
use Rattle.std.specs.Prelude.{◌≡◌, ◌⊎◌, ℕ, List, [], ◌∷◌, length, drop, Option, Some}
use mathlib.Core.Logic.{inl, inr}
use Rattle.std.specs.Global.{Vec}
use Rattle.sms_file.specs.declared.memory.MemoryFolder.{MemoryFolder}
use Rattle.sms_file.specs.Crash.{File, octets_of}

-- what has the file's name
abbrev pub file_of : MemoryFolder → File
file_of m = octets_of m.file

-- what was the file at the last sync of the folder
abbrev pub disk_of : MemoryFolder → File
disk_of m = octets_of m.disk

abbrev pub rights_of : MemoryFolder → Option ℕ
rights_of m = m.rights

-- a file of these octets and rights, on the disk too
pub record IsFolderOf (m : MemoryFolder) (octets : List ℕ) (rights : ℕ) : Type 0 where
  pub has_name : file_of m ≡ Some octets
  pub is_on_disk : disk_of m ≡ Some octets
  pub has_rights : rights_of m ≡ Some rights

-- what is on the disk, or what has the name
abbrev pub MayLeave : (disk file : File) → File → Type 0
MayLeave disk file c = (c ≡ disk) ⊎ (c ≡ file)

-- one of them is this
abbrev pub HadBeen : List (Option (Vec ℕ)) → File → Type 0
HadBeen [] c = ⊥
HadBeen (f ∷ past) c = (c ≡ octets_of f) ⊎ HadBeen past c

none_left : (past : List (Option (Vec ℕ))) (c : File) → HadBeen (drop (length past) past) c → ⊥
none_left [] c had = had
none_left (f ∷ past) c had = none_left past c had

-- since the last of them there is what is there now
pub only_now : (past : List (Option (Vec ℕ))) (disk file c : File) → MayLeave disk file c ⊎ HadBeen (drop (length past) past) c → MayLeave disk file c
only_now past disk file c (inl now) = now
only_now past disk file c (inr had) = absurd (none_left past c had)
