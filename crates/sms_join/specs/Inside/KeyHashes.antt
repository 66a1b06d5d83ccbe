-- A reader may pass this by: contracts of private functions, and proofs, alone cite it.
--
-- The hashes of keys: numbers that keys of one message share, and that other keys seldom have.
use Rattle.std.specs.Prelude.{ℕ, ◌/◌, ◌%◌, ◌^◌, List, [], ◌∷◌, ◌++◌, Option, None, Some, drop, length, take}
use Rattle.std.specs.List.{flat_map}
use Rattle.sms_field.specs.Address.Padded.{padded}
use Rattle.sms_field.specs.Address.Value.{AddressValue}
use Rattle.sms_tpdu.specs.declared.user_data.concat.Width.{Width}
use Rattle.sms_tpdu.specs.declared.user_data.concat.Width.TheVariants.{Eight, Sixteen}
use Rattle.sms_join.specs.declared.hashing.Hashing.{Hashing}
use Rattle.sms_join.specs.declared.key.Key.{Key}
use Rattle.sms_join.specs.declared.key.Key.TheVariants.{Single, Segmented, SingleTo, SegmentedTo}
use Rattle.sms_join.specs.Key.{origin_of, recipient_of}
use Rattle.sms_join.specs.Inside.Hashings.{hasher_of, write, finish}
use Rattle.sms_join.specs.Inside.KeyTags.{symbols_of}

-- a time stamp, and an octet that is 0
abbrev pub single : List ℕ → List ℕ
single stamp = stamp ++ 0 ∷ []

-- how many bits a reference has
abbrev pub width_mark : Width → ℕ
width_mark Eight = 8
width_mark Sixteen = 16

-- the low and the high octet of a reference, a maximum, four octets that are 0, and the width
abbrev pub segmented : Width → ℕ → ℕ → List ℕ
segmented width reference maximum =
    reference % 256 ∷ reference / 256 ∷ maximum ∷ 0 ∷ 0 ∷ 0 ∷ 0 ∷ width_mark width ∷ []

-- what tells the messages of an origin apart: of those in one piece the time stamp, of those in
-- segments their reference, its width, and their maximum
abbrev pub numbers_of : Key → List ℕ
numbers_of (Single origin stamp) = single stamp
numbers_of (Segmented origin width reference maximum) = segmented width reference maximum
numbers_of (SingleTo recipient origin stamp) = single stamp
numbers_of (SegmentedTo recipient origin width reference maximum) =
    segmented width reference maximum

-- an address in three words: how many symbols there are, the type of number, the plan, an octet
-- that is 0 and the last four of twenty places, in which the symbols stand, and octets that are 0
-- behind them; the first eight places; the eight in the middle
abbrev pub words_of : AddressValue → List (List ℕ)
words_of address =
    let symbols : List ℕ = symbols_of address in
    let room : List ℕ = padded 20 symbols in
    (length symbols % 256 ∷ address.kind ∷ address.plan ∷ 0 ∷ drop 16 room)
    ∷ take 8 room ∷ take 8 (drop 8 room) ∷ []

abbrev pub words_alone : List ℕ → AddressValue → List (List ℕ)
words_alone numbers origin = numbers ∷ words_of origin

abbrev pub words_to : List ℕ → AddressValue → AddressValue → List (List ℕ)
words_to numbers origin recipient = words_alone numbers origin ++ words_of recipient

-- what tells them apart, the origin, and the recipient, where there is one
abbrev pub words : Option AddressValue → AddressValue → List ℕ → List (List ℕ)
words None origin numbers = words_alone numbers origin
words (Some recipient) origin numbers = words_to numbers origin recipient

abbrev pub octets_in : List (List ℕ) → List ℕ
octets_in words = flat_map (λ word. word) words

abbrev pub hash_writes : Key → List (List ℕ)
hash_writes key = octets_in (words (recipient_of key) (origin_of key) (numbers_of key)) ∷ []

-- 32 bits of a hash
abbrev pub hashed : Hashing → Option AddressValue → AddressValue → List ℕ → ℕ
hashed hashing recipient origin numbers =
    finish (write (hasher_of hashing) (octets_in (words recipient origin numbers))) % 2 ^ 32

abbrev pub hash_of : Hashing → Key → ℕ
hash_of hashing key = hashed hashing (recipient_of key) (origin_of key) (numbers_of key)
