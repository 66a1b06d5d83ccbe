-- What a joiner holds can be saved.
use Rattle.std.proofs.Common.{◌≡◌, ℕ, zero, suc, ◌+◌, ◌<◌, ◌≤◌, ◌^◌, true, List, [], ◌∷◌, map, length, Option, Some, None, option_map, refl, sym, ap, ◌∙◌, arith}
use Rattle.std.proofs.lemmas.Bool.{and_from}
use Rattle.std.proofs.lemmas.List.{length-map}
use Rattle.std.specs.Prelude.{Result, Ok, Err, OnOk}
use Rattle.std.specs.List.{AllByRecursion, list_any}
use Rattle.sms_join.specs.declared.key.Key.{Key}
use Rattle.sms_join.specs.declared.key.Key.TheVariants.{Single, Segmented, SingleTo, SegmentedTo}
use Rattle.sms_join.specs.declared.units.Units.{Units}
use Rattle.sms_join.specs.Key.{maximum_of}
use Rattle.sms_join.specs.OpenSets.{SetValue, IsOpen, AreOpen, units_for, all_pieces}
use Rattle.sms_join.specs.OpenSets.Places.{filled}
use Rattle.sms_join.specs.OpenSets.Told.{RiseInTurn}
use Rattle.sms_join.specs.Gateway.Distinct.{AreDistinct}
use Rattle.sms_join.specs.Gateway.Finishings.{Fall}
use Rattle.sms_join.specs.Gateway.Value.{GatewayValue}
use Rattle.sms_saved.specs.Fits.{LimitsFit, SetFits, RememberedFits, AreRising, has_come, is_missing, is_open}
use Rattle.sms_saved.specs.Value.{maximum_of as saved_maximum}
use Rattle.sms_keep.specs.Saved.{saved_key, saved_message, saved_units, saved_set, saved_limits, saved_finishings, places_from, next_opening}
use Rattle.sms_keep.specs.Held.{KeyIsSpelled, CanBeSaved}
use Rattle.sms_keep.specs.Inside.Saving.{KeyIsSound, SetIsSound}
use Rattle.sms_keep.proofs.KeysBack.{all_more, many_finishings}
use Rattle.sms_keep.proofs.OneSaved.{looks, places_look, set_looked}
use Rattle.sms_keep.proofs.Distinct.{HaveOwnOctets, joiner_apart}

-- ---- a set

some_come : (ps : List (Option Units)) → 0 < length (filled ps) → list_any has_come (map (option_map saved_units) ps) ≡ true
some_come [] l = absurd (omega (arith, l))
some_come (None ∷ ps) l = some_come ps l
some_come (Some u ∷ ps) l = refl

some_miss : (ps : List (Option Units)) → length (filled ps) < length ps → list_any is_missing (map (option_map saved_units) ps) ≡ true
some_miss [] l = absurd (omega (arith, l))
some_miss (None ∷ ps) l = refl
some_miss (Some u ∷ ps) l = some_miss ps (omega (arith, l))

many_looks : (f : ℕ → Option Units) (n count : ℕ) → length (looks f n count) ≡ count
many_looks f n zero = refl
many_looks f n (suc count) = ap suc (many_looks f (suc n) count)

many_places : (s : SetValue) (n count : ℕ) → length (places_from n count s) ≡ count
many_places s n zero = refl
many_places s n (suc count) = ap suc (many_places s (suc n) count)

same_maximum : (k : Key) → maximum_of k ≡ saved_maximum (saved_message k)
same_maximum (Single origin stamp) = refl
same_maximum (Segmented origin width reference maximum) = refl
same_maximum (SingleTo recipient origin stamp) = refl
same_maximum (SegmentedTo recipient origin width reference maximum) = refl

set_is_open : (s : SetValue) → IsOpen s → is_open (places_from 1 (maximum_of s.key) s) ≡ true
set_is_open s h =
    let P : List (Option Units) = looks (λ k. units_for k s.sequences s.units) 1 (maximum_of s.key) in
    let is = set_looked s h.is_set in
    let many = ap length is.units in
    let all = many_looks (λ k. units_for k s.sequences s.units) 1 (maximum_of s.key) in
    ap is_open (places_look s 1 (maximum_of s.key))
    ∙ and_from (list_any has_come (map (option_map saved_units) P)) (list_any is_missing (map (option_map saved_units) P))
    (some_come P (omega (arith, many, h.is_set.as_many, h.some)))
    (some_miss P (omega (arith, many, all, h.is_set.as_many, h.part)))

set_fits : (s : SetValue) → SetIsSound s → IsOpen s → SetFits (saved_set s)
set_fits s h are =
    record {
      key = h.key.fits;
      moment = h.opened;
      opening = h.turn;
      count = many_places s 1 (maximum_of s.key) ∙ same_maximum s.key;
      places = h.places;
      is_open = set_is_open s are;
    }

sets_fit : (ss : List SetValue) → AllByRecursion SetIsSound ss → AreOpen ss → AllByRecursion SetFits (map saved_set ss)
sets_fit [] h are = tt
sets_fit (s ∷ ss) h are = (set_fits s h.0 are.0, sets_fit ss h.1 are.2)

sets_sound : (ss : List SetValue) → AllByRecursion SetIsSound ss → AllByRecursion (λ s. KeyIsSound s.key) ss
sets_sound [] h = tt
sets_sound (s ∷ ss) h = (h.0.key, sets_sound ss h.1)

sets_spelled : (ss : List SetValue) → AllByRecursion SetIsSound ss → AllByRecursion (λ s. KeyIsSpelled s.key) ss
sets_spelled [] h = tt
sets_spelled (s ∷ ss) h = (h.0.key.spelled, sets_spelled ss h.1)

-- ---- openings

next_above : (s : SetValue) (ss : List SetValue) → RiseInTurn (s ∷ ss) → s.turn < next_opening (s ∷ ss)
next_above s [] h = omega arith
next_above s (t ∷ ss) h =
    let l = next_above t ss h.1 in
    omega (arith, l, h.0.0)

sets_rise : (low : ℕ) (s : SetValue) (ss : List SetValue) → low ≤ s.turn → RiseInTurn (s ∷ ss) → AreRising low (next_opening (s ∷ ss)) (map saved_set (s ∷ ss))
sets_rise low s [] l h = (l, next_above s [] h, tt)
sets_rise low s (t ∷ ss) l h = (l, next_above s (t ∷ ss) h, sets_rise (s.turn + 1) t ss (omega (arith, h.0.0)) h.1)

all_rise : (ss : List SetValue) → RiseInTurn ss → AreRising 0 (next_opening ss) (map saved_set ss)
all_rise [] h = tt
all_rise (s ∷ ss) h = sets_rise 0 s ss (omega arith) h

-- ---- remembered keys

keys_fit : (ks : List Key) (ms : List ℕ) → AllByRecursion KeyIsSound ks → AllByRecursion (λ m. m < 2 ^ 64) ms → AllByRecursion RememberedFits (saved_finishings ks ms)
keys_fit [] ms h l = tt
keys_fit (k ∷ ks) [] h l = tt
keys_fit (k ∷ ks) (m ∷ ms) h l =
    all_more RememberedFits (saved_finishings ks ms) (record { key = saved_key k; moment = m }) (keys_fit ks ms h.1 l.1)
    (record { key = h.0.fits; moment = l.0 })

keys_spelled : (ks : List Key) → AllByRecursion KeyIsSound ks → AllByRecursion KeyIsSpelled ks
keys_spelled [] h = tt
keys_spelled (k ∷ ks) h = (h.0.spelled, keys_spelled ks h.1)

-- ---- all

pub can_be_saved : HaveOwnOctets → (g : GatewayValue) (taken : ℕ)
    → LimitsFit (saved_limits g.limits) → taken < 2 ^ 64 → next_opening g.told < 2 ^ 64
    → AllByRecursion SetIsSound g.told → AllByRecursion KeyIsSound g.holds.finished → AllByRecursion (λ m. m < 2 ^ 64) g.finishings
    → AreOpen g.told → RiseInTurn g.told → all_pieces g.told ≡ g.holds.kept → length g.told ≤ g.limits.open_max
    → length g.holds.finished ≤ g.limits.remembered → length g.finishings ≡ length g.holds.finished → Fall g.finishings → AreDistinct g.holds
    → CanBeSaved g taken
can_be_saved law g taken limits t next sets keys moments are rise pieces few_sets few_keys many fall distinct =
    record {
      is_joiner = record {
        sets = sets_spelled g.told sets;
        keys = keys_spelled g.holds.finished keys;
        are_open = are;
        pieces = sym pieces;
        moments = many;
        fall = fall;
      };
      fits = record {
        limits = limits;
        taken = t;
        next = next;
        sets_count = (let e = length-map g.told saved_set in omega (arith, e, few_sets));
        sets = sets_fit g.told sets are;
        rise = all_rise g.told rise;
        keys_count = (let e = many_finishings g.holds.finished g.finishings many in omega (arith, e, few_keys));
        keys = keys_fit g.holds.finished g.finishings keys moments;
        apart = joiner_apart law g (sets_sound g.told sets) keys are pieces distinct;
      };
    }

pub on_ok_always : {T E : Type 0} (r : Result T E) (P : Type 0) → P → OnOk r P
on_ok_always (Ok x) P p = p
on_ok_always (Err e) P p = tt
