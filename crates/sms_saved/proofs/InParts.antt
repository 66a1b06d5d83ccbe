-- A state in parts.
use Rattle.std.proofs.Common.{◌≡◌, ℕ, ◌-◌, ◌≤◌, false, ltb, List, [], ◌++◌, length, take, Option, Result, Ok, refl, sym, ap, subst, ◌∙◌, append_assoc, arith}
use Rattle.std.specs.List.{flat_map}
use Rattle.std.specs.Int.{w64}
use Rattle.std.proofs.lemmas.Bool.{ltb-false, le-ltb}
use Rattle.sms_saved.specs.declared.fault.Halt.{Halt}
use Rattle.sms_saved.specs.declared.fault.StateFault.TheVariants.{TooMany}
use Rattle.sms_saved.specs.declared.fault.Stop.{Stop}
use Rattle.sms_saved.specs.declared.fault.Stop.TheVariants as stops_at
use Rattle.sms_saved.specs.declared.state.Limits.{Limits}
use Rattle.sms_saved.specs.declared.state.Remembered.{Remembered}
use Rattle.sms_saved.specs.Value.{StateValue}
use Rattle.sms_saved.specs.declared.state.Key.{Key}
use Rattle.sms_saved.specs.declared.state.Message.{Message}
use Rattle.sms_saved.specs.Fits.{LimitsFit, SetFits, KeyFits, RememberedFits, StateFits, set_keys, remembered_keys}
use Rattle.sms_saved.specs.Inside.Fronts.{front_at}
use Rattle.sms_saved.specs.Parts.{FrontValue, IsFront, HasKeys, AreRead, state_of, unsealed}
use Rattle.sms_saved.specs.Spelling.{eight, set, remembered, counted, limits, head, front, body, digest, spelling}
use Rattle.sms_saved.specs.Reading.Fields.{Fails, IsHalt, number_at, optional_at}
use Rattle.sms_saved.specs.Reading.Keys.{address_at, message_at, key_at}
use Rattle.sms_saved.specs.Reading.Sets.{set_at, remembered_at}
use Rattle.sms_saved.specs.Reading.Lists.{few_judged_at, judge_set}
use Rattle.sms_saved.specs.Reading.Whole.{limits_at, head_at, state_at}
use Rattle.sms_saved.proofs.TakenFields.{IsBytes, bind_ok, guard_ok, Takes-then, ok_is}
use Rattle.sms_saved.proofs.Numbers.{reads_eight}
use Rattle.sms_saved.proofs.Keys.{reads_key, regroup3}
use Rattle.sms_saved.proofs.Sets.{reads_set, reads_remembered}
use Rattle.sms_saved.proofs.Judged.{reads_few}
use Rattle.sms_saved.proofs.Passed.{sets_passed, sets_pass, apart_joined}
use Rattle.sms_saved.proofs.LimitsRead.{reads_limits}
use Rattle.sms_saved.proofs.Whole.{head_takes, head_again, before_last, length_digest, state_again}

pub key_fits_read : (bytes origin r1 : List ℕ) (recipient : Option (List ℕ)) (r2 : List ℕ) (m : Message) (r3 : List ℕ) → IsBytes bytes
    → address_at bytes ≡ Ok (origin, r1) → optional_at address_at r1 ≡ Ok (recipient, r2) → message_at r2 ≡ Ok (m, r3)
    → KeyFits (record { origin = origin; recipient = recipient; message = m })
unfolding key_at
key_fits_read bytes origin r1 recipient r2 m r3 fits e1 e2 e3 =
    let k : Key = record { origin = origin; recipient = recipient; message = m } in
    (reads_key.takes bytes (k, r3) fits (rw (e1, e2, e3) refl)).1

pub remembered_taken : (bytes : List ℕ) (r : Remembered) (rest : List ℕ) → IsBytes bytes → remembered_at bytes ≡ Ok (r, rest) → (bytes ≡ remembered r ++ rest) × RememberedFits r
remembered_taken bytes r rest fits e = let t = reads_remembered.takes bytes (r, rest) fits e in (t.0.parts, t.1)

-- where a key that fits stands, it is read, and no other
pub remembered_same : (bytes : List ℕ) (own r : Remembered) (left rest : List ℕ) → RememberedFits r → bytes ≡ remembered r ++ rest → remembered_at bytes ≡ Ok (own, left) → (own ≡ r) × (left ≡ rest)
remembered_same bytes own r left rest fits parts read =
    let p : Remembered × List ℕ = (own, left) in
    let q : Remembered × List ℕ = (r, rest) in
    let same : p ≡ q = ok_is p q (sym read ∙ ap remembered_at parts ∙ reads_remembered.again r rest fits) in
    (ap (λ (z : Remembered × List ℕ). z.0) same, ap (λ (z : Remembered × List ℕ). z.1) same)

-- what is read is no fault
pub no_halt : {Y : Type 0} (e : Stop) (read : Result Y Halt) (y : Y) → IsHalt e → Fails e read → read ≡ Ok y → ⊥
no_halt stops_at.Memory read y halts fails is = halts
no_halt (stops_at.At h) read y halts fails is = cc

pub remembered_there : (bytes : List ℕ) (e : Stop) (r : Remembered) (rest : List ℕ) → RememberedFits r → bytes ≡ remembered r ++ rest → IsHalt e → Fails e (remembered_at bytes) → ⊥
remembered_there bytes e r rest fits parts halts fails =
    let y : Remembered × List ℕ = (r, rest) in
    no_halt e (remembered_at bytes) y halts fails (ap remembered_at parts ∙ reads_remembered.again r rest fits)

pub front_again : (own : Limits) (bytes : List ℕ) (f : FrontValue) → IsFront own bytes f → front_at own bytes ≡ Ok f
unfolding front_at
front_again own bytes f is =
    let r5 : List ℕ = eight f.count ++ f.rest in
    let r4 : List ℕ = counted set f.sets ++ r5 in
    let r3 : List ℕ = eight f.next ++ r4 in
    let r2 : List ℕ = eight f.taken ++ r3 in
    let r1 : List ℕ = limits own ++ r2 in
    let sets = (reads_few own.sets is.limits.sets (judge_set f.next) set_at set SetFits reads_set).again f.sets r5 (is.sets_count, is.sets, sets_pass f.next [] f.sets is.rise is.apart) in
    let count = reads_eight.again f.count f.rest (omega (arith, is.count, is.limits.keys)) in
    let few : ltb own.keys f.count ≡ false = le-ltb _ _ is.count in
    ap (front_at own) (is.octets ∙ (regroup3 (front own f.taken f.next) (counted set f.sets) (eight f.count) f.rest ∙ append_assoc (head ++ limits own ++ eight f.taken) (eight f.next) r4 ∙ regroup3 head (limits own) (eight f.taken) r3))
    ∙ rw (head_again r1, (reads_limits own).again own r2 (is.limits, refl), reads_eight.again f.taken r3 is.taken, reads_eight.again f.next r4 is.next, sets, count, few) refl

pub front_there : (own : Limits) (bytes : List ℕ) (e : Stop) (h : Halt) (f : FrontValue) → IsFront own bytes f → e ≡ stops_at.At h → Fails e (front_at own bytes) → ⊥
front_there own bytes e h f is same fails = no_halt e (front_at own bytes) f (subst IsHalt (sym same) tt) fails (front_again own bytes f is)

pub front_takes : (own : Limits) (bytes : List ℕ) (f : FrontValue) → IsBytes bytes → front_at own bytes ≡ Ok f → IsFront own bytes f
unfolding front_at
front_takes own bytes f fits e =
    let a = bind_ok (head_at bytes) _ f e in
    let b = bind_ok (limits_at own a.0) _ f a.2 in
    let c = bind_ok (number_at w64 b.0.1) _ f b.2 in
    let n = bind_ok (number_at w64 c.0.1) _ f c.2 in
    let d = bind_ok (few_judged_at own.sets (judge_set n.0.0) set_at n.0.1) _ f n.2 in
    let k = bind_ok (number_at w64 d.0.1) _ f d.2 in
    let made : FrontValue = record { taken = c.0.0; next = n.0.0; sets = d.0.0; count = k.0.0; rest = k.0.1 } in
    let g = guard_ok (ltb own.keys k.0.0) (record { left = length d.0.1; why = TooMany }) (Ok made) f k.2 in
    let few : k.0.0 ≤ own.keys = ltb-false _ _ g.0 in
    let t0 = head_takes bytes a.0 fits a.1 in
    let t1 = (reads_limits own).takes a.0 b.0 t0.rest_fits b.1 in
    let same : b.0.0 ≡ own = t1.1.1 in
    let wide : LimitsFit own = subst LimitsFit same t1.1.0 in
    let t2 = reads_eight.takes b.0.1 c.0 t1.0.rest_fits c.1 in
    let t3 = reads_eight.takes c.0.1 n.0 t2.0.rest_fits n.1 in
    let t4 = (reads_few own.sets wide.sets (judge_set n.0.0) set_at set SetFits reads_set).takes n.0.1 d.0 t3.0.rest_fits d.1 in
    let t5 = reads_eight.takes d.0.1 k.0 t4.0.rest_fits k.1 in
    let e01 = Takes-then bytes head a.0 (limits b.0.0) b.0.1 t0 t1.0 in
    let e02 = Takes-then bytes (head ++ limits b.0.0) b.0.1 (eight c.0.0) c.0.1 e01 t2.0 in
    let e03 = Takes-then bytes (head ++ limits b.0.0 ++ eight c.0.0) c.0.1 (eight n.0.0) n.0.1 e02 t3.0 in
    let e04 = Takes-then bytes (front b.0.0 c.0.0 n.0.0) n.0.1 (counted set d.0.0) d.0.1 e03 t4.0 in
    let e05 = Takes-then bytes (front b.0.0 c.0.0 n.0.0 ++ counted set d.0.0) d.0.1 (eight k.0.0) k.0.1 e04 t5.0 in
    let sets = sets_passed n.0.0 [] d.0.0 t4.1.2 in
    let octets : bytes ≡ front own c.0.0 n.0.0 ++ counted set d.0.0 ++ eight k.0.0 ++ k.0.1 =
    subst (λ (l : Limits). bytes ≡ front l c.0.0 n.0.0 ++ counted set d.0.0 ++ eight k.0.0 ++ k.0.1) same e05.parts in
    subst (IsFront own bytes) (ok_is made f g.1)
    (record {
      octets = octets;
      limits = wide;
      taken = t2.1;
      next = t3.1;
      sets_count = t4.1.0;
      sets = t4.1.1;
      rise = sets.0;
      apart = sets.1;
      count = few;
    })

pub parts_made : (own : Limits) (bytes : List ℕ) (f : FrontValue) (keys : List Remembered) → IsFront own bytes f → HasKeys bytes f keys → AreRead own bytes (state_of own f keys)
unfolding body
parts_made own bytes f keys is has =
    let s : StateValue = state_of own f keys in
    let sum : List ℕ = digest (take (unsealed bytes) bytes) in
    let F : List ℕ = front own f.taken f.next ++ counted set f.sets in
    let K : List ℕ = flat_map remembered keys in
    let counted_so : eight f.count ≡ eight (length keys) = ap eight (sym has.count) in
    let whole : bytes ≡ body s ++ sum =
    is.octets
    ∙ (ap (λ (r : List ℕ). F ++ eight f.count ++ r) has.octets
    ∙ (ap (λ (e : List ℕ). F ++ e ++ (K ++ sum)) counted_so
    ∙ (sym (append_assoc (F ++ eight (length keys)) K sum)
    ∙ ap (λ (l : List ℕ). l ++ sum) (append_assoc F (eight (length keys)) K)))) in
    let first : take (unsealed bytes) bytes ≡ body s =
    subst (λ (b : List ℕ). take (length b - 32) b ≡ body s) (sym whole) (before_last (body s) sum 32 (length_digest (take (unsealed bytes) bytes))) in
    let spelled : bytes ≡ spelling s = whole ∙ ap (λ (b : List ℕ). body s ++ digest b) first in
    let fits : StateFits s =
    record {
      limits = is.limits;
      taken = is.taken;
      next = is.next;
      sets_count = is.sets_count;
      sets = is.sets;
      rise = is.rise;
      keys_count = omega (arith, has.count, is.count);
      keys = has.fit;
      apart = apart_joined [] (set_keys f.sets) (remembered_keys keys) is.apart has.apart;
    } in
    record { fits = fits; limits = refl; spelled = spelled; read = ap (state_at own) spelled ∙ state_again own s (fits, refl) }
