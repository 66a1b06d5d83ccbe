-- The two laws of a whole state: what is read is spelled so, and what is spelled so is read.
use Rattle.std.proofs.Common.{◌≡◌, ℕ, zero, suc, ◌-◌, ◌≤◌, true, false, cond, ltb, List, [], ◌∷◌, ◌++◌, length, take, drop, Result, Ok, Err, refl, sym, ap, subst, ◌∙◌, append_assoc, arith}
use Rattle.std.specs.Int.{w64}
use Rattle.std.specs.Str.{bytes_eq}
use Rattle.std.proofs.lemmas.Bool.{ltb-false, le-ltb}
use Rattle.std.proofs.lemmas.List.{take_at, take-append-drop, length-append, length-take, append-nil}
use Rattle.std.proofs.lemmas.Slice.Eq.{bytes_eq-Decides}
use Rattle.sha2.specs.Sha512.{sha512_256, digest_bytes, final_hash, initial_hash_512_256}
use Rattle.sms_saved.specs.declared.fault.Halt.{Halt}
use Rattle.sms_saved.specs.declared.fault.StateFault.TheVariants.{NotAState, Short, Trailing, Checksum}
use Rattle.sms_saved.specs.declared.state.Limits.{Limits}
use Rattle.sms_saved.specs.Value.{StateValue}
use Rattle.sms_saved.specs.Fits.{LimitsFit, SetFits, RememberedFits, StateFits, AreApart, set_keys, remembered_keys}
use Rattle.sms_saved.specs.Spelling.{eight, set, remembered, counted, limits, magic, head, front, body, digest, spelling}
use Rattle.sms_saved.specs.Reading.Fields.{stops, number_at}
use Rattle.sms_saved.specs.Reading.Sets.{set_at, remembered_at}
use Rattle.sms_saved.specs.Reading.Lists.{few_judged_at, judge_set, judge_key}
use Rattle.sms_saved.specs.Reading.Whole.{limits_at, version_at, head_at, body_at, sealed_at, state_at}
use Rattle.sms_saved.proofs.TakenFields.{IsBytes, IsBytes-rest, IsBytes-drop, bind_ok, guard_ok, guard_held, ok_is, Takes, Takes-then, Reads}
use Rattle.sms_saved.proofs.Numbers.{reads_eight}
use Rattle.sms_saved.proofs.Keys.{regroup3}
use Rattle.sms_saved.proofs.Sets.{reads_set, reads_remembered}
use Rattle.sms_saved.proofs.Judged.{reads_few}
use Rattle.sms_saved.proofs.Passed.{sets_passed, sets_pass, keys_passed, keys_pass, apart_joined, apart_first, apart_second}
use Rattle.sms_saved.proofs.LimitsRead.{reads_limits}

-- ---- the head

version_takes : (bytes rest : List ℕ) → IsBytes bytes → version_at bytes ≡ Ok rest → Takes bytes (1 ∷ []) rest
unfolding version_at
version_takes [] rest fits e = absurd cc
version_takes (zero ∷ bytes) rest fits e = absurd cc
version_takes (suc zero ∷ bytes) rest fits e =
    subst (λ (r : List ℕ). Takes (1 ∷ bytes) (1 ∷ []) r) (ok_is bytes rest e) (record { parts = refl; rest_fits = IsBytes-rest 1 bytes fits })
version_takes (suc (suc v) ∷ bytes) rest fits e = absurd cc

pub head_takes : (bytes rest : List ℕ) → IsBytes bytes → head_at bytes ≡ Ok rest → Takes bytes head rest
unfolding head_at
head_takes bytes rest fits e =
    let fault : Halt = record { left = length bytes; why = NotAState } in
    let g = guard_ok (ltb (length bytes) 8) fault (cond (bytes_eq (take 8 bytes) magic) (version_at (drop 8 bytes)) (Err fault)) rest e in
    let h = guard_held (bytes_eq (take 8 bytes) magic) fault (version_at (drop 8 bytes)) rest g.1 in
    let is_magic : take 8 bytes ≡ magic = (bytes_eq-Decides (take 8 bytes) magic).0 h.0 in
    let first : Takes bytes magic (drop 8 bytes) = record { parts = sym (take-append-drop 8 bytes) ∙ ap (λ (t : List ℕ). t ++ drop 8 bytes) is_magic; rest_fits = IsBytes-drop 8 bytes fits } in
    Takes-then bytes magic (drop 8 bytes) (1 ∷ []) rest first (version_takes (drop 8 bytes) rest (IsBytes-drop 8 bytes fits) h.1)

pub head_again : (rest : List ℕ) → head_at (head ++ rest) ≡ Ok rest
unfolding head_at version_at
head_again rest =
    let long : ltb (length (head ++ rest)) 8 ≡ false = le-ltb _ _ (omega (arith, length-append head rest)) in
    rw long refl

-- ---- the body

-- what a state of a joiner with these limits fits in
abbrev pub OwnFits : Limits → StateValue → Type 0
OwnFits own s = StateFits s × (s.limits ≡ own)

keys_apart : (xs ys : List (List ℕ)) → AreApart (xs ++ []) ys → AreApart xs ys
keys_apart xs ys h = subst (λ (l : List (List ℕ)). AreApart l ys) (append-nil xs) h

keys_apart_back : (xs ys : List (List ℕ)) → AreApart xs ys → AreApart (xs ++ []) ys
keys_apart_back xs ys h = subst (λ (l : List (List ℕ)). AreApart l ys) (sym (append-nil xs)) h

body_takes : (own : Limits) (bytes : List ℕ) (x : StateValue × List ℕ) → IsBytes bytes → body_at own bytes ≡ Ok x → Takes bytes (body x.0) x.1 × OwnFits own x.0
unfolding body_at body
body_takes own bytes x fits e =
    let a = bind_ok (head_at bytes) _ x e in
    let b = bind_ok (limits_at own a.0) _ x a.2 in
    let c = bind_ok (number_at w64 b.0.1) _ x b.2 in
    let n = bind_ok (number_at w64 c.0.1) _ x c.2 in
    let d = bind_ok (few_judged_at own.sets (judge_set n.0.0) set_at n.0.1) _ x n.2 in
    let f = bind_ok (few_judged_at own.keys (judge_key (set_keys d.0.0)) remembered_at d.0.1) _ x d.2 in
    let t0 = head_takes bytes a.0 fits a.1 in
    let t1 = (reads_limits own).takes a.0 b.0 t0.rest_fits b.1 in
    let same : b.0.0 ≡ own = t1.1.1 in
    let wide : LimitsFit own = subst LimitsFit same t1.1.0 in
    let t2 = reads_eight.takes b.0.1 c.0 t1.0.rest_fits c.1 in
    let t3 = reads_eight.takes c.0.1 n.0 t2.0.rest_fits n.1 in
    let t4 = (reads_few own.sets wide.sets (judge_set n.0.0) set_at set SetFits reads_set).takes n.0.1 d.0 t3.0.rest_fits d.1 in
    let t5 = (reads_few own.keys wide.keys (judge_key (set_keys d.0.0)) remembered_at remembered RememberedFits reads_remembered).takes d.0.1 f.0 t4.0.rest_fits f.1 in
    let e01 = Takes-then bytes head a.0 (limits b.0.0) b.0.1 t0 t1.0 in
    let e02 = Takes-then bytes (head ++ limits b.0.0) b.0.1 (eight c.0.0) c.0.1 e01 t2.0 in
    let e03 = Takes-then bytes (head ++ limits b.0.0 ++ eight c.0.0) c.0.1 (eight n.0.0) n.0.1 e02 t3.0 in
    let e04 = Takes-then bytes (front b.0.0 c.0.0 n.0.0) n.0.1 (counted set d.0.0) d.0.1 e03 t4.0 in
    let e05 = Takes-then bytes (front b.0.0 c.0.0 n.0.0 ++ counted set d.0.0) d.0.1 (counted remembered f.0.0) f.0.1 e04 t5.0 in
    let sets = sets_passed n.0.0 [] d.0.0 t4.1.2 in
    let keys = keys_passed (set_keys d.0.0) [] f.0.0 t5.1.2 in
    let made : StateValue × List ℕ = (record { limits = b.0.0; taken = c.0.0; next = n.0.0; sets = d.0.0; keys = f.0.0 }, f.0.1) in
    let few_sets : length d.0.0 ≤ b.0.0.sets = subst (λ (l : Limits). length d.0.0 ≤ l.sets) (sym same) t4.1.0 in
    let few_keys : length f.0.0 ≤ b.0.0.keys = subst (λ (l : Limits). length f.0.0 ≤ l.keys) (sym same) t5.1.0 in
    let apart = apart_joined [] (set_keys d.0.0) (remembered_keys f.0.0) sets.1 (keys_apart (set_keys d.0.0) (remembered_keys f.0.0) keys) in
    let fit : StateFits made.0 = record { limits = t1.1.0; taken = t2.1; next = t3.1; sets_count = few_sets; sets = t4.1.1; rise = sets.0; keys_count = few_keys; keys = t5.1.1; apart = apart } in
    subst (λ (y : StateValue × List ℕ). Takes bytes (body y.0) y.1 × OwnFits own y.0) (ok_is made x f.2) (e05, (fit, same))

body_again : (own : Limits) (s : StateValue) (rest : List ℕ) → OwnFits own s → body_at own (body s ++ rest) ≡ Ok (s, rest)
unfolding body_at body
body_again own s rest fit =
    let fits = fit.0 in
    let r5 : List ℕ = counted remembered s.keys ++ rest in
    let r4 : List ℕ = counted set s.sets ++ r5 in
    let r3 : List ℕ = eight s.next ++ r4 in
    let r2 : List ℕ = eight s.taken ++ r3 in
    let r1 : List ℕ = limits s.limits ++ r2 in
    let wide : LimitsFit own = subst LimitsFit fit.1 fits.limits in
    let few_sets : length s.sets ≤ own.sets = subst (λ (l : Limits). length s.sets ≤ l.sets) fit.1 fits.sets_count in
    let few_keys : length s.keys ≤ own.keys = subst (λ (l : Limits). length s.keys ≤ l.keys) fit.1 fits.keys_count in
    let apart_sets = apart_first [] (set_keys s.sets) (remembered_keys s.keys) fits.apart in
    let apart_keys = keys_apart_back (set_keys s.sets) (remembered_keys s.keys) (apart_second [] (set_keys s.sets) (remembered_keys s.keys) fits.apart) in
    let sets = (reads_few own.sets wide.sets (judge_set s.next) set_at set SetFits reads_set).again s.sets r5 (few_sets, fits.sets, sets_pass s.next [] s.sets fits.rise apart_sets) in
    let keys = (reads_few own.keys wide.keys (judge_key (set_keys s.sets)) remembered_at remembered RememberedFits reads_remembered).again s.keys rest (few_keys, fits.keys, keys_pass (set_keys s.sets) [] s.keys apart_keys) in
    ap (body_at own) (regroup3 (front s.limits s.taken s.next) (counted set s.sets) (counted remembered s.keys) rest ∙ append_assoc (head ++ limits s.limits ++ eight s.taken) (eight s.next) r4 ∙ regroup3 head (limits s.limits) (eight s.taken) r3)
    ∙ rw (head_again r1, (reads_limits own).again s.limits r2 (fits.limits, fit.1), reads_eight.again s.taken r3 fits.taken, reads_eight.again s.next r4 fits.next, sets, keys) refl

pub reads_body : (own : Limits) → Reads (body_at own) body (OwnFits own)
reads_body own = record { takes = body_takes own; again = body_again own }

-- ---- the checksum

length_digest_bytes : (h : List ℕ) → length (digest_bytes h 8) ≡ 64
unfolding digest_bytes
length_digest_bytes h = refl

pub length_digest : (octets : List ℕ) → length (digest octets) ≡ 32
unfolding digest sha512_256
length_digest octets = omega (arith, length-take 32 (digest_bytes (final_hash initial_hash_512_256 octets) 8), length_digest_bytes (final_hash initial_hash_512_256 octets))

-- the octets before the last so many
pub before_last : (front back : List ℕ) (n : ℕ) → length back ≡ n → take (length (front ++ back) - n) (front ++ back) ≡ front
before_last front back n len = take_at front back (length (front ++ back) - n) (omega (arith, length-append front back))

pub state_takes : (own : Limits) (bytes : List ℕ) (s : StateValue) → IsBytes bytes → state_at own bytes ≡ Ok s → OwnFits own s × (bytes ≡ spelling s)
unfolding state_at sealed_at
state_takes own bytes s fits e =
    let a = bind_ok (body_at own bytes) _ s e in
    let x = a.0.0 in
    let sum = a.0.1 in
    let t = (reads_body own).takes bytes a.0 fits a.1 in
    let mine : List ℕ = digest (take (length bytes - 32) bytes) in
    let last : Result StateValue Halt = cond (bytes_eq sum mine) (Ok x) (stops sum Checksum) in
    let g = guard_ok (ltb (length sum) 32) (record { left = length sum; why = Short }) (cond (ltb 32 (length sum)) (stops sum Trailing) last) s a.2 in
    let h = guard_ok (ltb 32 (length sum)) (record { left = length sum; why = Trailing }) last s g.1 in
    let k = guard_held (bytes_eq sum mine) (record { left = length sum; why = Checksum }) (Ok x) s h.1 in
    let low : 32 ≤ length sum = ltb-false _ _ g.0 in
    let high : length sum ≤ 32 = ltb-false _ _ h.0 in
    let same : sum ≡ mine = (bytes_eq-Decides sum mine).0 k.0 in
    let first : take (length bytes - 32) bytes ≡ body x = subst (λ (b : List ℕ). take (length b - 32) b ≡ body x) (sym t.0.parts) (before_last (body x) sum 32 (omega arith)) in
    let whole : bytes ≡ spelling x = t.0.parts ∙ ap (λ (b : List ℕ). body x ++ b) (same ∙ ap digest first) in
    subst (λ (y : StateValue). OwnFits own y × (bytes ≡ spelling y)) (ok_is x s k.1) (t.1, whole)

pub state_again : (own : Limits) (s : StateValue) → OwnFits own s → state_at own (spelling s) ≡ Ok s
unfolding state_at sealed_at
state_again own s fits =
    let sum : List ℕ = digest (body s) in
    let len : length sum ≡ 32 = length_digest (body s) in
    let low : ltb (length sum) 32 ≡ false = le-ltb _ _ (omega arith) in
    let high : ltb 32 (length sum) ≡ false = le-ltb _ _ (omega arith) in
    let first : take (length (body s ++ sum) - 32) (body s ++ sum) ≡ body s = before_last (body s) sum 32 len in
    let same : bytes_eq sum (digest (take (length (body s ++ sum) - 32) (body s ++ sum))) ≡ true = (bytes_eq-Decides sum _).1 (ap digest (sym first)) in
    rw (body_again own s sum fits, low, high, same) refl
