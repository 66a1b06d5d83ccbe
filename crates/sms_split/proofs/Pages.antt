-- What is put on a page, one after another, and tokens of JSON likewise.
use Rattle.std.proofs.Common.{◌≡◌, ℕ, ◌+◌, Bool, true, false, List, [], ◌∷◌, ◌++◌, length, take, refl, ap, sym, subst, ◌∙◌, arith, length-append, append_assoc, take-add, ⊎_elim}
use Rattle.std.proofs.lemmas.Bool.{cases_Bool, false≢true}
use Rattle.std.proofs.lemmas.List.{take_all, take-append-le, take_at, drop_at, append-nil}
use Rattle.std.specs.Prelude.{◌&&◌}
use Rattle.sms_page.specs.Page.{PageValue, Puts, maybe}
use Rattle.sms_page.specs.Object.{ObjectValue, Token, Writes, after, begins, ends, texts, token_text}

take-past : (n : ℕ) (xs ys : List ℕ) → take (length xs + n) (xs ++ ys) ≡ xs ++ take n ys
take-past n xs ys = take-add (length xs) n (xs ++ ys) ∙ (λ i. take_at xs ys (length xs) refl i ++ take n (drop_at xs ys (length xs) refl i))

-- what is put behind what was put
pub Puts-then : {a b c : PageValue} (xs ys : List ℕ) → Puts a b xs → Puts b c ys → Puts a c (xs ++ ys)
Puts-then {a} {b} {c} xs ys p q = ⊎_elim first second (cases_Bool b.is_cut) where
  size : length (xs ++ ys) ≡ length xs + length ys
  size = length-append xs ys

  first : b.is_cut ≡ true → Puts a c (xs ++ ys)
  first cut = record {
    count = p.count;
    within = omega (arith, p.within, size);
    added = q.added ∙ ap (λ (n : ℕ). b.octets ++ take n ys) (q.cut cut).0 ∙ append-nil b.octets ∙ p.added
        ∙ ap (λ (l : List ℕ). a.octets ++ l) (sym (take-append-le p.count xs ys p.within));
    all = λ e. absurd (false≢true (sym e ∙ (q.cut cut).1));
    cut = λ e. ((p.cut e).0, (q.cut cut).1);
  }

  second : b.is_cut ≡ false → Puts a c (xs ++ ys)
  second open_still = record {
    count = length xs + q.count;
    within = omega (arith, q.within, size);
    added = q.added ∙ ap (λ (l : List ℕ). l ++ take q.count ys) (p.added ∙ ap (λ (n : ℕ). a.octets ++ take n xs) (p.all open_still) ∙ ap (λ (l : List ℕ). a.octets ++ l) (take_all (length xs) xs (omega arith)))
        ∙ append_assoc a.octets xs (take q.count ys) ∙ ap (λ (l : List ℕ). a.octets ++ l) (sym (take-past q.count xs ys));
    all = λ e. omega (arith, q.all e, size);
    cut = λ e. absurd (false≢true (sym open_still ∙ (p.cut e).1));
  }

-- the same octets
pub Puts-same : {a b : PageValue} {xs ys : List ℕ} → xs ≡ ys → Puts a b xs → Puts a b ys
Puts-same {a} {b} {xs} {ys} e p = let P : List ℕ → Type 0 = λ l. Puts a b l in subst P e p

-- what is put on an empty page stands there alone
pub Puts-first : {old new : PageValue} (xs : List ℕ) → old ≡ record { octets = []; is_cut = false } → Puts old new xs → new.is_cut ≡ false → new.octets ≡ xs
Puts-first {old} {new} xs empty p whole =
    p.added ∙ ap (λ (o : PageValue). o.octets ++ take p.count xs) empty ∙ take_all p.count xs (omega (arith, p.all whole))

-- what tokens say behind others
after-append : (has_value : Bool) (xs ys : List Token) → after has_value (xs ++ ys) ≡ after (after has_value xs) ys
unfolding after
after-append h [] ys = refl
after-append h (x ∷ xs) ys = after-append (ends x) xs ys

texts-append : (has_value : Bool) (xs ys : List Token) → texts has_value (xs ++ ys) ≡ texts has_value xs ++ texts (after has_value xs) ys
unfolding texts after
texts-append h [] ys = refl
texts-append h (x ∷ xs) ys =
    ap (λ (l : List ℕ). (maybe (h && begins x) 44 ++ token_text x) ++ l) (texts-append (ends x) xs ys)
    ∙ sym (append_assoc (maybe (h && begins x) 44 ++ token_text x) (texts (ends x) xs) (texts (after (ends x) xs) ys))

-- the same tokens
pub Writes-same : {a b : ObjectValue} {xs ys : List Token} → xs ≡ ys → Writes a b xs → Writes a b ys
Writes-same {a} {b} {xs} {ys} e p = let P : List Token → Type 0 = λ l. Writes a b l in subst P e p

-- tokens behind tokens
pub Writes-then : {a b c : ObjectValue} (xs ys : List Token) → Writes a b xs → Writes b c ys → Writes a c (xs ++ ys)
Writes-then {a} {b} {c} xs ys p q =
    let Q : Bool → Type 0 = λ h. Puts b.page c.page (texts h ys) in
    record {
      put = Puts-same (sym (texts-append a.has_value xs ys)) (Puts-then _ _ p.put (subst Q p.place q.put));
      place = q.place ∙ ap (λ (h : Bool). after h ys) p.place ∙ sym (after-append a.has_value xs ys);
    }

-- what is written on an empty page, and the end of the line, stand there alone
pub Writes-line : {p end : PageValue} {old new : ObjectValue} (tokens : List Token)
    → p ≡ record { octets = []; is_cut = false } → old ≡ record { page = p; has_value = false } → Writes old new tokens → Puts new.page end (10 ∷ []) → end.is_cut ≡ false → end.octets ≡ texts false tokens ++ 10 ∷ []
Writes-line {p} {end} {old} {new} tokens empty e w ends whole =
    let P : ObjectValue → Type 0 = λ o. Puts o.page new.page (texts o.has_value tokens) in
    Puts-first (texts false tokens ++ 10 ∷ []) empty (Puts-then _ _ (subst P e w.put) ends) whole
