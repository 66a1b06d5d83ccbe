-- The pieces in which septets are sent can be sent.
use Rattle.std.proofs.Common.{ℕ, zero, suc, ◌+◌, ◌<◌, ◌≤◌, ◌⊎◌, inl, inr, List, [], ◌∷◌, length, sym, ap, subst, arith}
use Rattle.std.proofs.lemmas.Bool.{cases_lt}
use Rattle.std.specs.List.{AllByRecursion}
use Rattle.sms_language.specs.declared.tables.Tables.{Tables}
use Rattle.sms_tpdu.specs.declared.user_data.concat.Width.{Width}
use Rattle.sms_national.specs.Cut.{ArePieces, AreSent}
use Rattle.sms_national.specs.Rooms.{room_after, table_octets, place_octets, room_alone, room_beside}
use Rattle.sms_national.specs.Segments.{cut_of, IsSendable}

-- more octets of a header leave no more room
less_after : (a b : ℕ) → a ≤ b → room_after b ≤ room_after a
less_after zero zero le = omega arith
less_after zero (suc b) le = omega arith
less_after (suc a) zero le = absurd (omega (arith, le))
less_after (suc a) (suc b) le = omega (arith, le)

pub less_beside : (width : Width) (tables : Tables) → room_beside width tables ≤ room_alone tables
less_beside width tables = less_after (table_octets tables) (place_octets width + table_octets tables) (omega arith)

all_fit : (room more : ℕ) (pieces : List (List ℕ)) (septets : List ℕ) → room ≤ more → ArePieces room pieces septets → AllByRecursion (λ (piece : List ℕ). length piece ≤ more) pieces
all_fit room more [] septets le e = tt
all_fit room more (p ∷ ps) septets le a = (omega (arith, a.2.fits, le), all_fit room more ps a.0 le a.3)

has_some : (room : ℕ) (pieces : List (List ℕ)) (septets : List ℕ) → 0 < length septets → ArePieces room pieces septets → 1 ≤ length pieces
has_some room [] septets some e = absurd (omega (arith, some, ap length e))
has_some room (p ∷ ps) septets some a = omega arith

pub sent_sendable : (width : Width) (tables : Tables) (septets : List ℕ) (pieces : List (List ℕ)) → length pieces ≤ 255 → AreSent width tables septets pieces → IsSendable (cut_of tables width pieces)
sent_sendable width tables septets pieces few sent = go (cases_lt (room_alone tables) (length septets))
  where
    single : length septets ≤ room_alone tables → IsSendable (cut_of tables width (septets ∷ []))
    single fits = record { some = omega arith; few = omega arith; alone = (fits, tt); beside = λ more. absurd (omega (arith, more)) }

    go : (room_alone tables < length septets) ⊎ (length septets ≤ room_alone tables) → IsSendable (cut_of tables width pieces)
    go (inl more) =
        let a = sent.parted more in
        record {
          some = has_some (room_beside width tables) pieces septets (omega (arith, more)) a;
          few = few;
          alone = all_fit (room_beside width tables) (room_alone tables) pieces septets (less_beside width tables) a;
          beside = λ many. all_fit (room_beside width tables) (room_beside width tables) pieces septets (omega arith) a;
        }
    go (inr fits) = subst (λ (l : List (List ℕ)). IsSendable (cut_of tables width l)) (sym (sent.alone fits)) (single fits)
