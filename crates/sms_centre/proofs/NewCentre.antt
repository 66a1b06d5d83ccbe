-- A new centre stands for the first state.
use Rattle.std.proofs.Common.{◌≡◌, ℕ, ◌<◌, zero, suc, List, [], ◌∷◌, map, Some, None, refl, sym, ap, subst, arith}
use Rattle.std.specs.List.{slice_get}
use Rattle.std.proofs.lemmas.List.Elements.{All-nil}
use Rattle.sms_field.specs.Address.Value.{AddressValue}
use Rattle.sms_centre.specs.Centre.State.{new_centre}
use Rattle.sms_centre.specs.Centre.Value.{LineValue, addresses}
use Rattle.sms_centre.specs.declared.centre.held.Ending.{Ending}
use Rattle.sms_centre.specs.Inside.Lines.{new_line}
use Rattle.sms_centre.specs.Centre.Standing.{LineStands, StandsFor}

pub new_addresses : (phones : List AddressValue) → addresses (map new_line phones) ≡ phones
new_addresses [] = refl
new_addresses (a ∷ phones) = ap (λ (l : List AddressValue). a ∷ l) (new_addresses phones)

-- each line has nothing
new_stands : (phones all : List AddressValue) (clock : ℕ) (r n : ℕ) (line : LineValue) → slice_get (map new_line phones) n ≡ Some line → LineStands all clock [] r line (record { queue = []; pushes = 0; latest = None })
new_stands [] all clock r n line e = absurd cc
new_stands (a ∷ phones) all clock r zero line e =
    let is : line ≡ new_line a = cc in
    subst (λ (l : LineValue). LineStands all clock [] r l (record { queue = []; pushes = 0; latest = None })) (sym is)
    (record { queue = refl; free = λ now. omega arith; next = refl; latest = refl })
new_stands (a ∷ phones) all clock r (suc n) line e = new_stands phones all clock r n line e

pub new_centre_stands : (limit : ℕ) (phones : List AddressValue) (clock : ℕ) → StandsFor limit phones clock (record { limit = limit; held = record { endings = []; messages = []; last = [] }; lines = map new_line phones }) new_centre
unfolding new_centre
new_centre_stands limit phones clock = record {
  limit_is = refl;
  phones_are = new_addresses phones;
  held_stand = record { left = All-nil (λ (e : Ending). clock < e.end); count = λ now le. refl; kept = λ phone reference recipient now le. refl };
  lines_stand = λ r line e. new_stands phones phones clock r r line e;
}
