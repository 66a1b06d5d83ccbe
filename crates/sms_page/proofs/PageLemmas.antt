-- What is put on a page, one after another.
use Rattle.std.proofs.Common.{◌≡◌, ℕ, ◌+◌, Bool, true, false, List, [], ◌++◌, length, take, refl, ap, sym, subst, ◌∙◌, arith, length-append, append_assoc, take-add, ⊎_elim}
use Rattle.std.proofs.lemmas.Bool.{cases_Bool, false≢true}
use Rattle.std.proofs.lemmas.List.{take_all, take-append-le, take_at, drop_at, append-nil}
use Rattle.sms_page.specs.Inside.Place.{IsPut}
use Rattle.sms_page.specs.Page.{PageValue, Puts}

-- all octets are put
pub Puts-all : (old new : PageValue) (octets : List ℕ) → old.is_cut ≡ false → new.octets ≡ old.octets ++ octets → Puts old new octets
Puts-all old new octets open_still added = record {
  count = length octets;
  within = omega arith;
  added = added ∙ ap (λ (l : List ℕ). old.octets ++ l) (sym (take_all (length octets) octets (omega arith)));
  all = λ _. refl;
  cut = λ e. absurd (false≢true (sym open_still ∙ e));
}

-- nothing is put on a page that is cut
pub Puts-cut : (old : PageValue) (octets : List ℕ) → old.is_cut ≡ true → Puts old old octets
Puts-cut old octets is_cut = record {
  count = 0;
  within = omega arith;
  added = sym (append-nil old.octets);
  all = λ e. absurd (false≢true (sym e ∙ is_cut));
  cut = λ _. (refl, is_cut);
}

pub Puts-nothing : (old : PageValue) → Puts old old []
Puts-nothing old = record {
  count = 0;
  within = omega arith;
  added = sym (append-nil old.octets);
  all = λ _. refl;
  cut = λ e. (refl, e);
}

-- room that is filled behind what was collected
pub Puts-room : (old : PageValue) (room new octets : List ℕ) (count end : ℕ) (cut : Bool) → record { octets = take count room; is_cut = cut } ≡ old → cut ≡ false
    → end ≡ count + length octets → IsPut room new count octets → Puts old (record { octets = take end new; is_cut = cut }) octets
Puts-room old room new octets count end cut is open_still far put =
    Puts-all old (record { octets = take end new; is_cut = cut }) octets (ap (λ (p : PageValue). p.is_cut) (sym is) ∙ open_still)
    (ap (λ (n : ℕ). take n new) far ∙ put.front ∙ ap (λ (p : PageValue). p.octets ++ octets) is)

take-past : (n : ℕ) (xs ys : List ℕ) → take (length xs + n) (xs ++ ys) ≡ xs ++ take n ys
take-past n xs ys = take-add (length xs) n (xs ++ ys) ∙ (λ i. take_at xs ys (length xs) refl i ++ take n (drop_at xs ys (length xs) refl i))

-- what is put behind what was put
pub Puts-then : {a b c : PageValue} (xs ys : List ℕ) → Puts a b xs → Puts b c ys → Puts a c (xs ++ ys)
Puts-then {a} {b} {c} xs ys p q = ⊎_elim first second (cases_Bool b.is_cut) where
  size : length (xs ++ ys) ≡ length xs + length ys
  size = length-append xs ys

  first : b.is_cut ≡ true → Puts a c (xs ++ ys)
  first cut = record {
    count = p.count;
    within = omega (arith, p.within, size);
    added = q.added ∙ ap (λ (n : ℕ). b.octets ++ take n ys) (q.cut cut).0 ∙ append-nil b.octets ∙ p.added
        ∙ ap (λ (l : List ℕ). a.octets ++ l) (sym (take-append-le p.count xs ys p.within));
    all = λ e. absurd (false≢true (sym e ∙ (q.cut cut).1));
    cut = λ e. ((p.cut e).0, (q.cut cut).1);
  }

  second : b.is_cut ≡ false → Puts a c (xs ++ ys)
  second open_still = record {
    count = length xs + q.count;
    within = omega (arith, q.within, size);
    added = q.added ∙ ap (λ (l : List ℕ). l ++ take q.count ys) (p.added ∙ ap (λ (n : ℕ). a.octets ++ take n xs) (p.all open_still) ∙ ap (λ (l : List ℕ). a.octets ++ l) (take_all (length xs) xs (omega arith)))
        ∙ append_assoc a.octets xs (take q.count ys) ∙ ap (λ (l : List ℕ). a.octets ++ l) (sym (take-past q.count xs ys));
    all = λ e. omega (arith, q.all e, size);
    cut = λ e. absurd (false≢true (sym open_still ∙ (p.cut e).1));
  }

-- the same octets
pub Puts-same : {a b : PageValue} {xs ys : List ℕ} → xs ≡ ys → Puts a b xs → Puts a b ys
Puts-same {a} {b} {xs} {ys} e p = let P : List ℕ → Type 0 = λ l. Puts a b l in subst P e p
