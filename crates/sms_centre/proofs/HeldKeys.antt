-- Each key of the table of duplicates is that of a held message: what a change of the messages does to it.
use Rattle.std.proofs.Common.{◌≡◌, ◌≢◌, ℕ, ◌<◌, ◌≤◌, Bool, true, false, cond, not, ◌&&◌, nat_lt, List, [], ◌∷◌, length, Contains, ◌⊎◌, inl, inr, Option, Some, None, IfSome, refl, sym, ap, ◌∙◌, subst, arith}
use Rattle.std.specs.Prelude.{All}
use Rattle.std.specs.Map.{keys_of, lookup}
use Rattle.std.proofs.lemmas.Bool.{cases_lt}
use Rattle.std.proofs.lemmas.Bool.Decides.{nat_tests}
use Rattle.std.proofs.lemmas.List.Elements.{All-nil, All-head, All-tail}
use Rattle.sms_centre.specs.declared.centre.held.Ending.{Ending}
use Rattle.sms_centre.specs.declared.centre.held.HeldKey.{HeldKey}
use Rattle.sms_centre.specs.Centre.Value.{HeldValue, key_eq}
use Rattle.sms_centre.specs.Centre.Kept.{ends_after, is_kept}
use Rattle.sms_centre.specs.Inside.Kept.{IsPutIn, HasMessage, AreOfMessages, ForgetsEnded}
use Rattle.sms_centre.proofs.Keys.{key_laws, same_key}
use Rattle.sms_centre.proofs.Holdings.{first_or_rest, put_holds, put_keeps}
use Rattle.std.specs.BTreeMap.{insert_entry}
use Rattle.sms_centre.proofs.HeldMaps.{ending_cmp, greatest_of, put_in}

key_refl : (key : HeldKey) → key_eq key key ≡ true
key_refl key = key_laws.refl key

-- ---- a key goes

-- the look-up after a removal, and where nothing is removed
pub gone_from : (b kept : Bool) (found left : Option ℕ) → kept ≡ false → left ≡ cond b None found → left ≡ cond (b && not kept) None found
gone_from true kept found left e f = rw e f
gone_from false kept found left e f = f

pub stays_in : (b kept : Bool) (found : Option ℕ) → kept ≡ true → found ≡ cond (b && not kept) None found
stays_in true kept found e = rw e refl
stays_in false kept found e = refl

not_later : (now at : ℕ) (o : Option ℕ) → now ≤ at → ends_after now o ≡ false → ends_after at o ≡ false
not_later now at None le e = refl
not_later now at (Some end) le e = grind (arith, nat_tests)

left_later : (now : ℕ) (o : Option ℕ) → ends_after now o ≡ true → IfSome o (λ end. now < end)
left_later now None e = absurd (let f : false ≡ true = e in cc)
left_later now (Some end) e = grind (arith, nat_tests)

-- from the moment on the same duplicates are found
pub keeps_after : (now : ℕ) (key : HeldKey) (old new : List (HeldKey × ℕ)) → ForgetsEnded now key old new → (other : HeldKey) (at : ℕ) → now ≤ at → is_kept new other at ≡ is_kept old other at
keeps_after now key old new forgets other at le = go (key_eq key other) refl (is_kept old key now) refl (forgets other)
  where
    go : (b : Bool) → key_eq key other ≡ b → (kept : Bool) → is_kept old key now ≡ kept → lookup (key_eq other) new ≡ cond (b && not kept) None (lookup (key_eq other) old) → is_kept new other at ≡ is_kept old other at
    go false e kept f left = ap (ends_after at) left
    go true e true f left = ap (ends_after at) left
    go true e false f left =
        let same : key ≡ other = same_key key other e in
        let ended : is_kept old other now ≡ false = subst (λ (k : HeldKey). is_kept old k now ≡ false) same f in
        ap (ends_after at) left ∙ sym (not_later now at (lookup (key_eq other) old) le ended)

-- and the key itself is left only where a message with it ends later
pub key_left : (now : ℕ) (key : HeldKey) (old new : List (HeldKey × ℕ)) → ForgetsEnded now key old new → IfSome (lookup (key_eq key) new) (λ end. now < end)
key_left now key old new forgets =
    go (is_kept old key now) refl (forgets key ∙ ap (λ (b : Bool). cond (b && not (is_kept old key now)) None (lookup (key_eq key) old)) (key_refl key))
  where
    go : (kept : Bool) → is_kept old key now ≡ kept → lookup (key_eq key) new ≡ cond (true && not kept) None (lookup (key_eq key) old) → IfSome (lookup (key_eq key) new) (λ end. now < end)
    go true f left = subst (λ (o : Option ℕ). IfSome o (λ end. now < end)) (sym left) (left_later now (lookup (key_eq key) old) f)
    go false f left = subst (λ (o : Option ℕ). IfSome o (λ end. now < end)) (sym left) tt

pair_parts : (a b : Ending) (k l : HeldKey) → ◌≡◌ {A = Ending × HeldKey} (a, k) (b, l) → (a ≡ b) × (k ≡ l)
pair_parts a b k l e = (ap (λ (p : Ending × HeldKey). p.0) e, ap (λ (p : Ending × HeldKey). p.1) e)

-- the first message has ended and goes: the keys that are left are of the others
pub keys_left : (now : ℕ) (ending : Ending) (key : HeldKey) (rest : List (Ending × HeldKey)) (old new : List (HeldKey × ℕ)) → ending.end ≤ now → ForgetsEnded now key old new
    → AreOfMessages ((ending, key) ∷ rest) old → AreOfMessages rest new
keys_left now ending key rest old new come forgets are other end found = go (key_eq key other) refl (is_kept old key now) refl (forgets other)
  where
    still : (b kept : Bool) → key_eq key other ≡ b → is_kept old key now ≡ kept → (b && not kept) ≡ false → lookup (key_eq other) old ≡ Some end → HasMessage rest other end
    still b kept e f left was =
        let own = are other end was in
        which own (first_or_rest (ending, key) rest (own.ending, other) own.is_held)
      where
        which : (own : HasMessage ((ending, key) ∷ rest) other end) → (◌≡◌ {A = Ending × HeldKey} (ending, key) (own.ending, other)) ⊎ Contains rest (own.ending, other) → HasMessage rest other end
        which own (inr among) = record { ending = own.ending; is_held = among; ends = own.ends }
        which own (inl first) =
            let parts = pair_parts ending own.ending key other first in
            let equal : key_eq key other ≡ true = subst (λ (k : HeldKey). key_eq key k ≡ true) parts.1 (key_refl key) in
            let ends : ending.end ≡ end = ap (λ (x : Ending). x.end) parts.0 ∙ own.ends in
            let here : lookup (key_eq key) old ≡ Some end = subst (λ (k : HeldKey). lookup (key_eq k) old ≡ Some end) (sym parts.1) was in
            let ended : is_kept old key now ≡ false = ap (ends_after now) here ∙ ended_by end ends in
            let gone : (b && not kept) ≡ true = rw (sym e ∙ equal, sym f ∙ ended) refl in
            absurd (let z : true ≡ false = sym gone ∙ left in cc)
          where
            ended_by : (n : ℕ) → ending.end ≡ n → nat_lt now n ≡ false
            ended_by n e = grind (arith, nat_tests, come)

    go : (b : Bool) → key_eq key other ≡ b → (kept : Bool) → is_kept old key now ≡ kept → lookup (key_eq other) new ≡ cond (b && not kept) None (lookup (key_eq other) old) → HasMessage rest other end
    go true e false f left = absurd (let z : ◌≡◌ {A = Option ℕ} None (Some end) = sym left ∙ found in cc)
    go true e true f left = still true true e f refl (sym left ∙ found)
    go false e kept f left = still false kept e f refl (sym left ∙ found)

message_after : (now : ℕ) (messages : List (Ending × HeldKey)) (ending : Ending) (key : HeldKey) → All (λ e. now < e.end) (keys_of messages) → Contains messages (ending, key) → now < ending.end
message_after now [] ending key all among = absurd (let within = among.1 in omega arith)
message_after now (m ∷ ms) ending key all among = which (first_or_rest m ms (ending, key) among) (message_after now ms ending key (All-tail (λ e. now < e.end) m.0 (keys_of ms) all))
  where
    which : (m ≡ (ending, key)) ⊎ Contains ms (ending, key) → (Contains ms (ending, key) → now < ending.end) → now < ending.end
    which (inl first) rest = subst (λ (e : Ending). now < e.end) (ap (λ (p : Ending × HeldKey). p.0) first) (All-head (λ e. now < e.end) m.0 (keys_of ms) all)
    which (inr among) rest = rest among

-- where no message has ended, no key has
pub none_ended : (now : ℕ) (messages : List (Ending × HeldKey)) (last : List (HeldKey × ℕ)) → All (λ e. now < e.end) (keys_of messages) → AreOfMessages messages last
    → (key : HeldKey) → IfSome (lookup (key_eq key) last) (λ end. now < end)
none_ended now messages last after are key = go (lookup (key_eq key) last) refl
  where
    go : (o : Option ℕ) → lookup (key_eq key) last ≡ o → IfSome o (λ end. now < end)
    go None e = tt
    go (Some end) e =
        let own = are key end e in
        let later = message_after now messages own.ending key after own.is_held in
        let ends = own.ends in
        omega (arith, later, ends)

pub none_there : (P : Ending → Type 0) (messages : List (Ending × HeldKey)) → (0 < length messages → ⊥) → All P (keys_of messages)
none_there P [] none = All-nil P
none_there P (m ∷ ms) none = absurd (none (omega arith))

-- ---- a message comes

pub keys_with : (old new : List (Ending × HeldKey)) (last after : List (HeldKey × ℕ)) (key : HeldKey) (ending : Ending) → IsPutIn (ending, key) old new
    → ((q : HeldKey) → lookup (key_eq q) after ≡ cond (key_eq key q) (Some (greatest_of ending.end (lookup (key_eq key) last))) (lookup (key_eq q) last))
    → AreOfMessages old last → AreOfMessages new after
keys_with old new last after key ending put updated are q end found = go (key_eq key q) refl (sym (updated q) ∙ found)
  where
    still : (k : HeldKey) (n : ℕ) → lookup (key_eq k) last ≡ Some n → HasMessage new k n
    still k n e = let own = are k n e in record { ending = own.ending; is_held = put_keeps (ending, key) old new put (own.ending, k) own.is_held; ends = own.ends }

    greatest : (o : Option ℕ) → lookup (key_eq key) last ≡ o → greatest_of ending.end o ≡ end → HasMessage new key end
    greatest None e is = record { ending = ending; is_held = put_holds (ending, key) old new put; ends = is }
    greatest (Some other) e is = which (cases_lt ending.end other)
      where
        which : (ending.end < other) ⊎ (other ≤ ending.end) → HasMessage new key end
        which (inl less) = still key end (e ∙ ap (λ (n : ℕ). Some n) (omega (arith, less, is)))
        which (inr same) = record { ending = ending; is_held = put_holds (ending, key) old new put; ends = omega (arith, same, is) }

    go : (b : Bool) → key_eq key q ≡ b → cond b (Some (greatest_of ending.end (lookup (key_eq key) last))) (lookup (key_eq q) last) ≡ Some end → HasMessage new q end
    go false e is = still q end is
    go true e is =
        subst (λ (k : HeldKey). HasMessage new k end) (same_key key q e)
        (greatest (lookup (key_eq key) last) refl (let f : greatest_of ending.end (lookup (key_eq key) last) ≡ end = cc in f))

pub keys_held : (old : HeldValue) (key : HeldKey) (ending : Ending) (es new_es : List (Ending × HeldKey)) (last mid new : List (HeldKey × ℕ)) (greatest : ℕ) (found : Option ℕ)
    → ◌≡◌ {A = HeldValue} (record { endings = keys_of es; messages = es; last = last }) old → All (λ e. e ≢ ending) old.endings
    → new_es ≡ insert_entry ending_cmp es ending key
    → mid ≡ last → found ≡ lookup (key_eq key) last → greatest ≡ greatest_of ending.end found
    → ((q : HeldKey) → lookup (key_eq q) new ≡ cond (key_eq key q) (Some greatest) (lookup (key_eq q) mid))
    → AreOfMessages es last → AreOfMessages new_es new
keys_held old key ending es new_es last mid new greatest found is_old apart put same found_is greatest_is update are =
    let apart_here : All (λ e. e ≢ ending) (keys_of es) = subst (λ (v : HeldValue). All (λ e. e ≢ ending) v.endings) (sym is_old) apart in
    let put_here : IsPutIn (ending, key) es new_es = subst (λ (x : List (Ending × HeldKey)). IsPutIn (ending, key) es x) (sym put) (put_in es ending key apart_here) in
    let updated : (q : HeldKey) → lookup (key_eq q) new ≡ cond (key_eq key q) (Some (greatest_of ending.end (lookup (key_eq key) last))) (lookup (key_eq q) last) =
    λ q. update q ∙ (ap (λ (x : List (HeldKey × ℕ)). cond (key_eq key q) (Some greatest) (lookup (key_eq q) x)) same
    ∙ ap (λ (n : ℕ). cond (key_eq key q) (Some n) (lookup (key_eq q) last)) (greatest_is ∙ ap (greatest_of ending.end) found_is)) in
    keys_with es new_es last new key ending put_here updated are
