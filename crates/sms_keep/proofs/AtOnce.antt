-- A state that is held as it is read.
use Rattle.std.proofs.Common.{◌≡◌, ℕ, ◌+◌, ◌<◌, ◌≤◌, Bool, true, false, ◌||◌, List, [], ◌∷◌, ◌++◌, length, take, drop, refl, sym, ap, subst, ◌∙◌, append_assoc, arith, length-append}
use Rattle.std.proofs.lemmas.List.{append-nil}
use Rattle.std.proofs.lemmas.Grind.{flat_map-append}
use Rattle.std.proofs.lemmas.List.Concat.{flat_map-cons}
use Rattle.std.specs.List.{AllByRecursion, flat_map}
use Rattle.std.specs.Str.{bytes_eq}
use Rattle.sms_join.specs.declared.key.Key.{Key}
use Rattle.sms_join.specs.Joiner.{is_among as is_remembered}
use Rattle.sms_join.specs.OpenSets.{AreOpen}
use Rattle.sms_join.specs.Gateway.Distinct.{AreDistinct}
use Rattle.sms_join.specs.Gateway.Finishings.{not_before, Fall}
use Rattle.sms_join.specs.Gateway.Value.{GatewayValue}
use Rattle.sms_saved.specs.declared.state.Limits.{Limits}
use Rattle.sms_saved.specs.declared.state.Remembered.{Remembered as SavedFinishing}
use Rattle.sms_saved.specs.Fits.{is_among, KeyFits, SetFits, RememberedFits, StateFits, set_keys, remembered_keys}
use Rattle.sms_saved.specs.Parts.{FrontValue, IsFront, HasKeys, AreRead, state_of, unsealed, is_sealed}
use Rattle.sms_saved.specs.Spelling.{key, remembered, digest, spelling}
use Rattle.sms_saved.specs.Value.{SetValue as SavedSet, StateValue}
use Rattle.sms_keep.specs.declared.restoring.Restored.{Restored}
use Rattle.sms_keep.specs.Saved.{saved_key, saved_limits, saved_finishings}
use Rattle.sms_keep.specs.Held.{KeyIsSpelled, HasAddresses, SetsHaveAddresses, KeysHaveAddresses, AreInTime, CanHold}
use Rattle.sms_keep.specs.Restored.{last_moment}
use Rattle.sms_keep.specs.Inside.AtOnce.{IsNext, AreTaken, IsReadAs}
use Rattle.sms_keep.specs.Inside.Restoring.{Remembers}
use Rattle.sms_keep.specs.Inside.Saving.{KeyIsSound}
use Rattle.sms_keep.specs.Inside.SetsBack.{SetsAreNew, ArePut}
use Rattle.sms_keep.proofs.SameKeys.{bytes_true}
use Rattle.sms_keep.proofs.Distinct.{HaveOwnOctets, Distinct, AreDisjoint, apart_from, among_finished, finished_distinct}
use Rattle.sms_keep.proofs.KeysBack.{many_finishings, all_more, last_more, in_time_more, one_more_key, saved_has}

-- ---- the loop over the keys

-- These keys have been taken.
pub record Going (old g : GatewayValue) (octets : List ℕ) (i : ℕ) (rest : List ℕ) (last : ℕ) : Type 0 where
  pub keys : List SavedFinishing
  pub parts : octets ≡ flat_map remembered keys ++ rest
  pub count_is : length keys ≡ i
  pub last_is : last ≡ last_moment 0 keys
  pub fit : AllByRecursion RememberedFits keys
  pub remembers : Remembers g keys
  pub addresses : KeysHaveAddresses keys
  pub in_time : AreInTime 0 keys
  pub limits : g.limits ≡ old.limits

pub none_going : (g : GatewayValue) (octets : List ℕ) → Remembers g [] → Going g g octets 0 octets 0
none_going g octets h =
    record {
      keys = [];
      parts = refl;
      count_is = refl;
      last_is = refl;
      fit = tt;
      remembers = h;
      addresses = tt;
      in_time = tt;
      limits = refl;
    }

-- there is room for one more
pub going_room : (old g : GatewayValue) (octets : List ℕ) (i : ℕ) (rest : List ℕ) (last : ℕ) → Going old g octets i rest last → i < old.limits.remembered → length g.holds.finished < g.limits.remembered
going_room old g octets i rest last was few =
    let as_many = many_finishings g.holds.finished g.finishings was.remembers.moments in
    let limit : g.limits.remembered ≡ old.limits.remembered = ap (λ x. x.remembered) was.limits in
    omega (arith, as_many, ap (λ (l : List SavedFinishing). length l) was.remembers.keys, was.count_is, limit, few)

one_flat : (r : SavedFinishing) → flat_map remembered (r ∷ []) ≡ remembered r
one_flat r = flat_map-cons remembered r [] ∙ append-nil (remembered r)

pub one_going : (old g h : GatewayValue) (octets : List ℕ) (i : ℕ) (rest : List ℕ) (last : ℕ) (own : Key) (moment : ℕ) (after : List ℕ)
    → Going old g octets i rest last → IsNext last rest own moment after → i < old.limits.remembered
    → h ≡ record {
      limits = g.limits;
      holds = record {
        kept = g.holds.kept;
        finished = take g.limits.remembered (own ∷ g.holds.finished);
      };
      told = g.told;
      finishings = take g.limits.remembered (not_before g.finishings moment ∷ g.finishings);
    }
    → Going old h octets (i + 1) after moment
one_going old g h octets i rest last own moment after was next few new =
    let r : SavedFinishing = next.saved in
    let late : last_moment 0 was.keys ≤ r.moment = subst (λ n. n ≤ r.moment) was.last_is next.can.in_time in
    let limit : g.limits.remembered ≡ old.limits.remembered = ap (λ x. x.remembered) was.limits in
    let lately = subst
    (λ (m : ℕ). h ≡ record {
      limits = g.limits;
      holds = record { kept = g.holds.kept; finished = take g.limits.remembered (own ∷ g.holds.finished) };
      told = g.told;
      finishings = take g.limits.remembered (not_before g.finishings m ∷ g.finishings);
    }) (sym next.moment_is) new in
    record {
      keys = was.keys ++ r ∷ [];
      parts =
          was.parts
          ∙ ap (λ (l : List ℕ). flat_map remembered was.keys ++ l) next.parts
          ∙ sym (append_assoc (flat_map remembered was.keys) (remembered r) after)
          ∙ ap (λ (l : List ℕ). l ++ after) (ap (λ (l : List ℕ). flat_map remembered was.keys ++ l) (sym (one_flat r)) ∙ sym (flat_map-append remembered was.keys (r ∷ [])));
      count_is = length-append was.keys (r ∷ []) ∙ ap (λ (n : ℕ). n + 1) was.count_is;
      last_is = sym next.moment_is ∙ sym (last_more 0 was.keys r);
      fit = all_more RememberedFits was.keys r was.fit next.fits;
      remembers = one_more_key g h was.keys r own was.remembers next.can.key late (omega (arith, was.count_is, limit, few)) lately;
      addresses = all_more (λ (q : SavedFinishing). HasAddresses q.key) was.keys r was.addresses (saved_has r.key own next.can.key);
      in_time = in_time_more 0 was.keys r was.in_time late;
      limits = ap (λ (x : GatewayValue). x.limits) new ∙ was.limits;
    }

pub all_going : (old g : GatewayValue) (octets : List ℕ) (count i : ℕ) (rest : List ℕ) (last : ℕ) → Going old g octets i rest last → i ≡ count → AreTaken g count octets rest
all_going old g octets count i rest last was e =
    record {
      keys = was.keys;
      parts = was.parts;
      count_is = was.count_is ∙ e;
      fit = was.fit;
      remembers = was.remembers;
      addresses = was.addresses;
      in_time = was.in_time;
    }

-- ---- sets whose keys are new

pub sets_have : (g : GatewayValue) (ss : List SavedSet) → SetsAreNew g ss → SetsHaveAddresses ss
sets_have g [] h = tt
sets_have g (s ∷ ss) h = (saved_has s.key h.0.own h.0.saved, sets_have g ss h.1)

-- ---- no key twice

all_front : {X : Type 0} (P : X → Type 0) (xs : List X) (x : X) → AllByRecursion P (xs ++ x ∷ []) → AllByRecursion P xs × P x
all_front P [] x h = (tt, h.0)
all_front P (y ∷ xs) x h = let more = all_front P xs x h.1 in ((h.0, more.0), more.1)

keys_sound : (ks : List Key) (ms : List ℕ) → length ms ≡ length ks → AllByRecursion KeyIsSpelled ks → AllByRecursion RememberedFits (saved_finishings ks ms) → AllByRecursion KeyIsSound ks
keys_sound [] ms e spelled fit = tt
keys_sound (k ∷ ks) [] e spelled fit = absurd (omega (arith, e))
keys_sound (k ∷ ks) (m ∷ ms) e spelled fit =
    let r : SavedFinishing = record { key = saved_key k; moment = m } in
    let parts = all_front RememberedFits (saved_finishings ks ms) r fit in
    (record { spelled = spelled.0; fits = parts.1.key }, keys_sound ks ms (omega (arith, e)) spelled.1 parts.0)

new_disjoint : HaveOwnOctets → (g : GatewayValue) (ks : List Key) (ms : List ℕ) → g.holds.finished ≡ ks → AllByRecursion KeyIsSound ks
    → (ss : List SavedSet) → AllByRecursion SetFits ss → SetsAreNew g ss → AreDisjoint (set_keys ss) (remembered_keys (saved_finishings ks ms))
new_disjoint law g ks ms is sound [] fits new = λ t h j. absurd cc
new_disjoint law g ks ms is sound (s ∷ ss) fits new =
    λ t h j. by t j (bytes_eq t (key s.key)) refl (new_disjoint law g ks ms is sound ss fits.1 new.1 t) h
  where
    by : (t : List ℕ) → is_among (remembered_keys (saved_finishings ks ms)) t ≡ true → (b : Bool) → bytes_eq t (key s.key) ≡ b
        → (is_among (set_keys ss) t ≡ true → is_among (remembered_keys (saved_finishings ks ms)) t ≡ true → ⊥)
        → (bytes_eq t (key s.key) || is_among (set_keys ss) t) ≡ true → ⊥
    by t j true e rest h =
        let own : Key = new.0.own in
        let same : t ≡ key (saved_key own) = bytes_true t (key s.key) e ∙ ap key (sym new.0.saved.saved) in
        let own_sound : KeyIsSound own = record { spelled = new.0.saved.spelled; fits = subst KeyFits (sym new.0.saved.saved) fits.0.key } in
        let there : is_remembered ks own ≡ true = among_finished law ks ms own sound own_sound (ap (is_among (remembered_keys (saved_finishings ks ms))) (sym same) ∙ j) in
        let none : is_remembered ks own ≡ false = ap (λ (l : List Key). is_remembered l own) (sym is) ∙ new.0.fresh in
        absurd cc
    by t j false e rest h = rest (sym (ap (λ (b : Bool). b || is_among (set_keys ss) t) e) ∙ h) j

-- ---- the whole

-- The law by which parts make a state.
abbrev pub PartsMake : Type 0
PartsMake = (own : Limits) (bytes : List ℕ) (f : FrontValue) (keys : List SavedFinishing) → IsFront own bytes f → HasKeys bytes f keys → AreRead own bytes (state_of own f keys)

-- The octets spell the state, of which the joiner remembers the keys.
pub record IsFilled (own : Limits) (octets : List ℕ) (f : FrontValue) (g : GatewayValue) : Type 0 where
  pub keys : List SavedFinishing
  pub read : AreRead own octets (state_of own f keys)
  pub can : CanHold (state_of own f keys)
  pub remembers : Remembers g keys

pub filled : HaveOwnOctets → PartsMake → (own : Limits) (octets rest : List ℕ) (f : FrontValue) (g : GatewayValue)
    → IsFront own octets f → is_sealed octets ≡ true → AreTaken g f.count f.rest rest → bytes_eq rest (drop (unsealed octets) octets) ≡ true
    → SetsAreNew g f.sets → AreDistinct g.holds → IsFilled own octets f g
filled law make own octets rest f g front sealed taken last new distinct =
    let ks : List Key = g.holds.finished in
    let ms : List ℕ = g.finishings in
    let keys : List SavedFinishing = taken.keys in
    let same : saved_finishings ks ms ≡ keys = taken.remembers.keys in
    let sound : AllByRecursion KeyIsSound ks =
    keys_sound ks ms taken.remembers.moments taken.remembers.spelled (subst (AllByRecursion RememberedFits) (sym same) taken.fit) in
    let sum : rest ≡ digest (take (unsealed octets) octets) = bytes_true _ _ last ∙ bytes_true _ _ sealed in
    let apart =
    subst (λ (qs : List SavedFinishing). Distinct (remembered_keys qs)) same (finished_distinct law ks ms sound distinct.once) in
    let disjoint =
    subst (λ (qs : List SavedFinishing). AreDisjoint (set_keys f.sets) (remembered_keys qs)) same (new_disjoint law g ks ms refl sound f.sets front.sets new) in
    record {
      keys = keys;
      read =
          make own octets f keys front
          (record {
            octets = taken.parts ∙ ap (λ (r : List ℕ). flat_map remembered keys ++ r) sum;
            count = taken.count_is;
            fit = taken.fit;
            apart = apart_from (set_keys f.sets) (remembered_keys keys) apart disjoint;
          });
      can = record { sets = sets_have g f.sets new; keys = taken.addresses; in_time = taken.in_time };
      remembers = taken.remembers;
    }

-- what is known once the sets are put back
pub filled_held : (own : Limits) (octets : List ℕ) (f : FrontValue) (g h : GatewayValue) → IsFilled own octets f g
    → saved_limits h.limits ≡ own → ArePut g h f.sets
    → AreOpen h.told → Fall h.finishings → (r : Restored) → r ≡ record { gateway = h; taken = f.taken }
    → IsReadAs own octets r
filled_held own octets f g h is limits put are_open fall r made =
    subst (IsReadAs own octets) (sym made)
    (record {
      state = state_of own f is.keys;
      read = is.read;
      can = is.can;
      holds = (
        refl,
        record {
          limits = limits;
          sets = put.sets;
          keys =
              ap (λ (ks : List Key). saved_finishings ks h.finishings) put.finished
              ∙ ap (λ (ms : List ℕ). saved_finishings g.holds.finished ms) put.finishings
              ∙ is.remembers.keys;
          is_joiner =
              record {
                sets = put.spelled;
                keys = subst (λ (ks : List Key). AllByRecursion KeyIsSpelled ks) (sym put.finished) is.remembers.spelled;
                are_open = are_open;
                pieces = put.kept;
                moments = ap length put.finishings ∙ is.remembers.moments ∙ sym (ap length put.finished);
                fall = fall;
              };
        },
      );
    })

-- ---- it is one state

-- no octets are two states
abbrev pub StatesHaveOwnOctets : Type 0
StatesHaveOwnOctets = (s t : StateValue) → StateFits s → StateFits t → spelling s ≡ spelling t → s ≡ t

pub one_state : StatesHaveOwnOctets → (own : Limits) (octets : List ℕ) (r : Restored) (h : IsReadAs own octets r) (s : StateValue) → StateFits s → octets ≡ spelling s → s ≡ h.state
one_state law own octets r h s fits e = law s h.state fits h.read.fits (sym e ∙ h.read.spelled)
