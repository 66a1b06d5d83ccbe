-- What a change of the two maps of held messages does to what is kept.
use Rattle.std.proofs.Common.{◌≡◌, ◌≢◌, ℕ, Bool, true, false, cond, ◌&&◌, ◌||◌, nat_lt, List, [], ◌∷◌, ◌++◌, Option, Some, None, refl, sym, ap, ◌∙◌, subst, arith}
use Rattle.std.specs.Prelude.{All, max}
use Rattle.std.specs.List.{slice_get}
use Rattle.std.specs.Map.{keys_of, lookup}
use Rattle.std.specs.Ordering.{match_ordering, nat_cmp, ordering_then}
use Rattle.std.specs.BTreeMap.{insert_entry}
use Rattle.std.specs.declared.cmp.Ordering.{Ordering}
use Rattle.std.specs.declared.cmp.Ordering.TheVariants.{Less, Equal, Greater}
use Rattle.std.proofs.lemmas.Bool.Decides.{nat_tests}
use Rattle.std.proofs.lemmas.List.Elements.{All-head, All-tail}
use Rattle.std.proofs.lemmas.Map.Lookups.{exact_unsigned}
use Rattle.std.proofs.lemmas.Option.{some_pair_parts}
use Rattle.sms_centre.proofs.Keys.{same_key}
use Rattle.sms_centre.specs.declared.centre.held.Ending.{Ending}
use Rattle.sms_centre.specs.declared.centre.held.HeldKey.{HeldKey}
use Rattle.sms_centre.specs.Centre.Value.{HeldValue, key_eq}
use Rattle.sms_centre.specs.Centre.Kept.{ends_after, is_kept}
use Rattle.sms_centre.specs.Inside.Kept.{IsPutIn, HoldsAlso}
use Rattle.sms_centre.specs.contracts.centre.held.EndingOrd.TheImpl as order

-- what `cmp` answers for endings
abbrev pub ending_cmp : Ending → Ending → Ordering
ending_cmp = (order.ghosts).cmp

-- ---- one more is held

-- the greater of an end and the one that is there
abbrev pub greatest_of : ℕ → Option ℕ → ℕ
greatest_of end None = end
greatest_of end (Some other) = max end other

after_greatest : (now end : ℕ) (o : Option ℕ) → nat_lt now (greatest_of end o) ≡ ((nat_lt now end && true) || ends_after now o)
after_greatest now end None = grind (arith, nat_tests)
after_greatest now end (Some other) = grind (arith, nat_tests)

kept_more : (now end : ℕ) (b : Bool) (o p : Option ℕ) → (b ≡ true → o ≡ p) → ends_after now (cond b (Some (greatest_of end o)) p) ≡ ((nat_lt now end && b) || ends_after now p)
kept_more now end true o p same = after_greatest now end o ∙ ap (λ (q : Option ℕ). (nat_lt now end && true) || ends_after now q) (same refl)
kept_more now end false o p same = none (nat_lt now end)
  where
    none : (t : Bool) → ends_after now p ≡ ((t && false) || ends_after now p)
    none true = refl
    none false = refl

-- a key with the greater end is kept as long as either message
pub kept_with : (last new : List (HeldKey × ℕ)) (key : HeldKey) (end : ℕ)
    → ((q : HeldKey) → lookup (key_eq q) new ≡ cond (key_eq key q) (Some (greatest_of end (lookup (key_eq key) last))) (lookup (key_eq q) last))
    → (other : HeldKey) (now : ℕ) → is_kept new other now ≡ ((nat_lt now end && key_eq key other) || is_kept last other now)
kept_with last new key end put other now =
    ap (ends_after now) (put other)
    ∙ kept_more now end (key_eq key other) (lookup (key_eq key) last) (lookup (key_eq other) last) (λ e. ap (λ (k : HeldKey). lookup (key_eq k) last) (same_key key other e))

both_equal : (o p : Ordering) → ordering_then o p ≡ Equal → (o ≡ Equal) × (p ≡ Equal)
both_equal Less p e = absurd cc
both_equal Equal p e = (refl, e)
both_equal Greater p e = absurd cc

endings : (p q r s t u : ℕ) → p ≡ s → q ≡ t → r ≡ u → ◌≡◌ {A = Ending} (record { end = p; recipient = q; stamp = r }) (record { end = s; recipient = t; stamp = u })
endings p q r s t u e f g = cc

same_ending : (a b : Ending) → ending_cmp a b ≡ Equal → a ≡ b
same_ending a b e =
    let h = both_equal (nat_cmp a.end b.end) (ordering_then (nat_cmp a.recipient b.recipient) (nat_cmp a.stamp b.stamp)) e in
    let k = both_equal (nat_cmp a.recipient b.recipient) (nat_cmp a.stamp b.stamp) h.1 in
    endings a.end a.recipient a.stamp b.end b.recipient b.stamp (exact_unsigned _ _ h.0) (exact_unsigned _ _ k.0) (exact_unsigned _ _ k.1)

put_one : (o : Ordering) (e : Ending × HeldKey) (es new : List (Ending × HeldKey)) (ending : Ending) (key : HeldKey) → (o ≡ Equal → ending ≡ e.0) → e.0 ≢ ending → IsPutIn (ending, key) es new
    → IsPutIn (ending, key) (e ∷ es) (match_ordering o ((ending, key) ∷ e ∷ es) ((e.0, key) ∷ es) (e ∷ new))
put_one Less e es new ending key same apart rest = record { before = []; after = e ∷ es; was = refl; is = refl }
put_one Equal e es new ending key same apart rest = absurd (apart (sym (same refl)))
put_one Greater e es new ending key same apart rest = record {
  before = e ∷ rest.before;
  after = rest.after;
  was = ap (λ (r : List (Ending × HeldKey)). e ∷ r) rest.was;
  is = ap (λ (r : List (Ending × HeldKey)). e ∷ r) rest.is;
}

-- an ending that none of the others is comes to stand among them, with its key
pub put_in : (es : List (Ending × HeldKey)) (ending : Ending) (key : HeldKey) → All (λ e. e ≢ ending) (keys_of es) → IsPutIn (ending, key) es (insert_entry ending_cmp es ending key)
put_in [] ending key apart = record { before = []; after = []; was = refl; is = refl }
put_in (e ∷ es) ending key apart =
    put_one (ending_cmp ending e.0) e es (insert_entry ending_cmp es ending key) ending key (same_ending ending e.0) (All-head (λ x. x ≢ ending) e.0 (keys_of es) apart)
    (put_in es ending key (All-tail (λ x. x ≢ ending) e.0 (keys_of es) apart))

endings-append : (xs ys : List (Ending × HeldKey)) → keys_of (xs ++ ys) ≡ keys_of xs ++ keys_of ys
endings-append [] ys = refl
endings-append (x ∷ xs) ys = ap (λ (r : List Ending). x.0 ∷ r) (endings-append xs ys)

put_ending : (es new : List (Ending × HeldKey)) (ending : Ending) (key : HeldKey) → IsPutIn (ending, key) es new → IsPutIn ending (keys_of es) (keys_of new)
put_ending es new ending key put = record {
  before = keys_of put.before;
  after = keys_of put.after;
  was = ap (λ (x : List (Ending × HeldKey)). keys_of x) put.was ∙ endings-append put.before put.after;
  is = ap (λ (x : List (Ending × HeldKey)). keys_of x) put.is ∙ endings-append put.before ((ending, key) ∷ put.after);
}

pub holds_also : (old : HeldValue) (key : HeldKey) (ending : Ending) (es new_es : List (Ending × HeldKey)) (last mid new : List (HeldKey × ℕ)) (greatest : ℕ) (found : Option ℕ)
    → ◌≡◌ {A = HeldValue} (record { endings = keys_of es; messages = es; last = last }) old → All (λ e. e ≢ ending) old.endings
    → new_es ≡ insert_entry ending_cmp es ending key
    → mid ≡ last → found ≡ lookup (key_eq key) last → greatest ≡ greatest_of ending.end found
    → ((q : HeldKey) → lookup (key_eq q) new ≡ cond (key_eq key q) (Some greatest) (lookup (key_eq q) mid))
    → HoldsAlso old key ending (record { endings = keys_of new_es; messages = new_es; last = new })
holds_also old key ending es new_es last mid new greatest found is_old apart put same found_is greatest_is update =
    let apart_here : All (λ e. e ≢ ending) (keys_of es) = subst (λ (v : HeldValue). All (λ e. e ≢ ending) v.endings) (sym is_old) apart in
    let put_here : IsPutIn (ending, key) es new_es = subst (λ (x : List (Ending × HeldKey)). IsPutIn (ending, key) es x) (sym put) (put_in es ending key apart_here) in
    let updated : (q : HeldKey) → lookup (key_eq q) new ≡ cond (key_eq key q) (Some (greatest_of ending.end (lookup (key_eq key) last))) (lookup (key_eq q) last) =
    λ q. update q ∙ (ap (λ (x : List (HeldKey × ℕ)). cond (key_eq key q) (Some greatest) (lookup (key_eq q) x)) same
    ∙ ap (λ (n : ℕ). cond (key_eq key q) (Some n) (lookup (key_eq q) last)) (greatest_is ∙ ap (greatest_of ending.end) found_is)) in
    subst (λ (v : HeldValue). HoldsAlso v key ending (record { endings = keys_of new_es; messages = new_es; last = new })) is_old (record {
      messages = put_here;
      endings = put_ending es new_es ending key put_here;
      kept = kept_with last new key ending.end updated;
    })

-- ---- the first is forgotten

-- what a look-up at the front finds is what is taken from there
pub taken_first : (es rest : List (Ending × HeldKey)) (a b : Ending) (k l : HeldKey) → es ≡ (a, k) ∷ rest → slice_get es 0 ≡ Some (b, l) → a.end ≡ b.end
taken_first es rest a b k l e f =
    let same : ◌≡◌ {A = Option (Ending × HeldKey)} (Some (a, k)) (Some (b, l)) = sym (ap (λ (x : List (Ending × HeldKey)). slice_get x 0) e) ∙ f in
    ap (λ (x : Ending). x.end) (some_pair_parts a b k l same).0
