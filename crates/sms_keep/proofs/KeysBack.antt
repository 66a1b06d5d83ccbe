-- Remembered keys, one after another.
use Rattle.std.proofs.Common.{◌≡◌, ℕ, suc, ◌+◌, ◌<◌, ◌≤◌, false, List, [], ◌∷◌, ◌++◌, length, take, drop, get_or, Option, Some, None, option_map, IfSome, refl, sym, ap, subst, ◌∙◌, arith, length-append}
use Rattle.std.proofs.lemmas.List.{take_all, length-take-le}
use Rattle.std.specs.List.{AllByRecursion}
use Rattle.sms_field.specs.Address.{address_octets}
use Rattle.sms_field.specs.Address.Value.{AddressValue, HasSpelling}
use Rattle.sms_join.specs.declared.key.Key.{Key}
use Rattle.sms_join.specs.Key.{origin_of, recipient_of}
use Rattle.sms_join.specs.Joiner.{is_among as is_remembered}
use Rattle.sms_join.specs.OpenSets.{SetValue, has_set}
use Rattle.sms_join.specs.Gateway.Finishings.{not_before}
use Rattle.sms_join.specs.Gateway.Value.{GatewayValue}
use Rattle.sms_saved.specs.declared.state.Key.{Key as SavedKey}
use Rattle.sms_saved.specs.declared.state.Remembered.{Remembered as SavedFinishing}
use Rattle.sms_saved.specs.Fits.{AreApart, set_keys, remembered_keys}
use Rattle.sms_saved.specs.Value.{SetValue as SavedSet, StateValue}
use Rattle.sms_keep.specs.declared.fault.HeldFault.{HeldFault}
use Rattle.sms_keep.specs.declared.fault.HeldFault.TheVariants.{State, Address, Moments}
use Rattle.sms_keep.specs.Saved.{saved_key, saved_finishings}
use Rattle.sms_keep.specs.Held.{KeyIsSpelled, IsAddress, HasAddresses, SetsHaveAddresses, KeysHaveAddresses, AreInTime}
use Rattle.sms_keep.specs.Restored.{last_moment, place_of_key, IsBad, BadAddress, TooEarly, IsBadKey}
use Rattle.sms_keep.specs.Inside.Restoring.{Remembers, IsSavedAs, CanFollow, CannotFollow}
use Rattle.sms_keep.proofs.Apart.{key_is_fresh}
use Rattle.sms_keep.proofs.Lengths.{list_split, list_more}

pub all_more : {X : Type 0} (P : X → Type 0) (xs : List X) (x : X) → AllByRecursion P xs → P x → AllByRecursion P (xs ++ x ∷ [])
all_more P [] x h p = (p, tt)
all_more P (y ∷ xs) x h p = (h.0, all_more P xs x h.1 p)

pub last_more : (low : ℕ) (rs : List SavedFinishing) (r : SavedFinishing) → last_moment low (rs ++ r ∷ []) ≡ r.moment
last_more low [] r = refl
last_more low (q ∷ rs) r = last_more q.moment rs r

pub in_time_more : (low : ℕ) (rs : List SavedFinishing) (r : SavedFinishing) → AreInTime low rs → last_moment low rs ≤ r.moment → AreInTime low (rs ++ r ∷ [])
in_time_more low [] r h l = (l, tt)
in_time_more low (q ∷ rs) r h l = (h.0, in_time_more q.moment rs r h.1 l)

-- ---- one key more

-- it counts at its own moment where none is later
own_moment : (ks : List Key) (ms : List ℕ) (m : ℕ) → length ms ≡ length ks → last_moment 0 (saved_finishings ks ms) ≤ m → not_before ms m ≡ m
own_moment ks [] m l h = refl
own_moment [] (n ∷ ms) m l h = absurd (omega (arith, l))
own_moment (k ∷ ks) (n ∷ ms) m l h =
    let e = last_more 0 (saved_finishings ks ms) (record { key = saved_key k; moment = n }) in
    omega (arith, e, h)

pub many_finishings : (ks : List Key) (ms : List ℕ) → length ms ≡ length ks → length (saved_finishings ks ms) ≡ length ks
many_finishings [] ms e = refl
many_finishings (k ∷ ks) [] e = absurd (omega (arith, e))
many_finishings (k ∷ ks) (m ∷ ms) e =
    let h = many_finishings ks ms (omega (arith, e)) in
    let l = length-append (saved_finishings ks ms) (record { key = saved_key k; moment = m } ∷ []) in
    omega (arith, h, l)

-- the joiner after one that is remembered
pub one_more_key : (g h : GatewayValue) (rs : List SavedFinishing) (r : SavedFinishing) (k : Key)
    → Remembers g rs → IsSavedAs r.key k → last_moment 0 rs ≤ r.moment → length rs < g.limits.remembered
    → h ≡ record {
      limits = g.limits;
      holds = record {
        kept = g.holds.kept;
        finished = take g.limits.remembered (k ∷ g.holds.finished);
      };
      told = g.told;
      finishings = take g.limits.remembered (not_before g.finishings r.moment ∷ g.finishings);
    }
    → Remembers h (rs ++ r ∷ [])
one_more_key g h rs r k was own l few is =
    let count : length rs ≡ length g.holds.finished = ap length (sym was.keys) ∙ many_finishings g.holds.finished g.finishings was.moments in
    let own_one : not_before g.finishings r.moment ≡ r.moment =
    own_moment g.holds.finished g.finishings r.moment was.moments (subst (λ qs. last_moment 0 qs ≤ r.moment) (sym was.keys) l) in
    let keys : take g.limits.remembered (k ∷ g.holds.finished) ≡ k ∷ g.holds.finished = take_all g.limits.remembered (k ∷ g.holds.finished) (omega (arith, count, few)) in
    let moments : take g.limits.remembered (not_before g.finishings r.moment ∷ g.finishings) ≡ r.moment ∷ g.finishings =
    take_all g.limits.remembered (not_before g.finishings r.moment ∷ g.finishings) (omega (arith, count, few, was.moments)) ∙ ap (λ m. m ∷ g.finishings) own_one in
    let finished : h.holds.finished ≡ k ∷ g.holds.finished = ap (λ (x : GatewayValue). x.holds.finished) is ∙ keys in
    let finishings : h.finishings ≡ r.moment ∷ g.finishings = ap (λ (x : GatewayValue). x.finishings) is ∙ moments in
    record {
      told = ap (λ (x : GatewayValue). x.told) is ∙ was.told;
      kept = ap (λ (x : GatewayValue). x.holds.kept) is ∙ was.kept;
      keys =
          ap (λ (ks : List Key). saved_finishings ks h.finishings) finished
          ∙ (ap (λ (ms : List ℕ). saved_finishings (k ∷ g.holds.finished) ms) finishings
          ∙ (ap (λ (qs : List SavedFinishing). qs ++ record { key = saved_key k; moment = r.moment } ∷ []) was.keys
          ∙ ap (λ q. rs ++ record { key = q; moment = r.moment } ∷ []) own.saved));
      moments = ap length finishings ∙ (ap suc was.moments ∙ sym (ap length finished));
      spelled = subst (λ ks. AllByRecursion KeyIsSpelled ks) (sym finished) (own.spelled, was.spelled);
    }

-- ---- addresses

pub key_has : (k : Key) → KeyIsSpelled k → HasAddresses (saved_key k)
key_has k h =
    record {
      origin = record { address = origin_of k; is_one = h.origin; written = refl };
      recipient = some (recipient_of k) h.recipient;
    } where
      some : (r : Option AddressValue) → IfSome r HasSpelling → IfSome (option_map address_octets r) IsAddress
      some None h = tt
      some (Some r) h = record { address = r; is_one = h; written = refl }

pub saved_has : (k : SavedKey) (own : Key) → IsSavedAs k own → HasAddresses k
saved_has k own h = subst HasAddresses h.saved (key_has own h.spelled)

-- ---- the loop

-- the keys before this index are remembered
pub record Walked (old g : GatewayValue) (keys : List SavedFinishing) (i last : ℕ) : Type 0 where
  pub remembers : Remembers g (take i keys)
  pub last_is : last ≡ last_moment 0 (take i keys)
  pub addresses : KeysHaveAddresses (take i keys)
  pub in_time : AreInTime 0 (take i keys)
  pub limits : g.limits ≡ old.limits

pub none_walked : (g : GatewayValue) (keys : List SavedFinishing) → Remembers g [] → Walked g g keys 0 0
none_walked g keys h = record { remembers = h; last_is = refl; addresses = tt; in_time = tt; limits = refl }

pub one_walked : (old g h : GatewayValue) (keys : List SavedFinishing) (i last : ℕ) (own : SavedFinishing) (k : Key)
    → Walked old g keys i last → i < length keys → own ≡ get_or keys i own → CanFollow last own k → length keys ≤ old.limits.remembered
    → h ≡ record {
      limits = g.limits;
      holds = record {
        kept = g.holds.kept;
        finished = take g.limits.remembered (k ∷ g.holds.finished);
      };
      told = g.told;
      finishings = take g.limits.remembered (not_before g.finishings own.moment ∷ g.finishings);
    }
    → Walked old h keys (i + 1) own.moment
one_walked old g h keys i last own k was l is can few new =
    let more : take (i + 1) keys ≡ take i keys ++ own ∷ [] = list_more keys i own l is in
    let late : last_moment 0 (take i keys) ≤ own.moment = subst (λ n. n ≤ own.moment) was.last_is can.in_time in
    let count = length-take-le i keys (omega (arith, l)) in
    let limit : g.limits.remembered ≡ old.limits.remembered = ap (λ x. x.remembered) was.limits in
    record {
      remembers =
          subst (Remembers h) (sym more)
          (one_more_key g h (take i keys) own k was.remembers can.key late (omega (arith, count, limit, l, few)) new);
      last_is = sym (ap (last_moment 0) more ∙ last_more 0 (take i keys) own);
      addresses =
          subst KeysHaveAddresses (sym more)
          (all_more (λ (r : SavedFinishing). HasAddresses r.key) (take i keys) own was.addresses (saved_has own.key k can.key));
      in_time = subst (AreInTime 0) (sym more) (in_time_more 0 (take i keys) own was.in_time late);
      limits = ap (λ (x : GatewayValue). x.limits) new ∙ was.limits;
    }

pub walked_closed : (old g : GatewayValue) (keys : List SavedFinishing) (i last : ℕ) (k : Key) → Walked old g keys i last → has_set g.told k ≡ false
walked_closed old g keys i last k was = ap (λ (ts : List SetValue). has_set ts k) was.remembers.told

pub walked_fresh : (old g : GatewayValue) (sets : List SavedSet) (keys : List SavedFinishing) (i last : ℕ) (own : SavedFinishing) (k : Key)
    → Walked old g keys i last → i < length keys → own ≡ get_or keys i own → CanFollow last own k
    → AreApart [] (set_keys sets ++ remembered_keys keys) → is_remembered g.holds.finished k ≡ false
walked_fresh old g sets keys i last own k was l is can apart =
    key_is_fresh sets keys (take i keys) own (drop (i + 1) keys) g.holds.finished g.finishings k (list_split keys i own l is) was.remembers.keys was.remembers.moments apart can.key.saved

is_bad : (before : List SavedFinishing) (last : ℕ) (own : SavedFinishing) (why : HeldFault) → last ≡ last_moment 0 before → CannotFollow last own why → IsBad before own why
is_bad before last own Address e h = BadAddress h
is_bad before last own Moments e h = TooEarly h.0 (omega (arith, e, h.1))
is_bad before last own (State why) e h = absurd h

pub bad_key : (s : StateValue) (old g : GatewayValue) (i last place : ℕ) (own : SavedFinishing) (why : HeldFault)
    → SetsHaveAddresses s.sets → Walked old g s.keys i last → i < length s.keys → own ≡ get_or s.keys i own → CannotFollow last own why
    → place ≡ place_of_key s (take i s.keys) → IsBadKey s (record { place = place; why = why })
bad_key s old g i last place own why sets was l is cannot at =
    record {
      sets = sets;
      before = take i s.keys;
      own = own;
      after = drop (i + 1) s.keys;
      parts = list_split s.keys i own l is;
      good = was.addresses;
      in_time = was.in_time;
      bad = is_bad (take i s.keys) last own why was.last_is cannot;
      place = at;
    }

-- all are
pub all_walked : (old g : GatewayValue) (keys : List SavedFinishing) (i last : ℕ) → Walked old g keys i last → length keys ≤ i
    → Remembers g keys × KeysHaveAddresses keys × AreInTime 0 keys
all_walked old g keys i last was l =
    let e : take i keys ≡ keys = take_all i keys l in
    (subst (Remembers g) e was.remembers, subst KeysHaveAddresses e was.addresses, subst (AreInTime 0) e was.in_time)
