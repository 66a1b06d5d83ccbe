-- One more content joins those that a folder in memory has had.
use Rattle.std.proofs.Common.{◌≡◌, ◌⊎◌, inl, inr, ⊎_elim, ℕ, zero, suc, ◌≤◌, List, [], ◌∷◌, ◌++◌, length, drop, Vec, Option, refl, sym, ap, ◌∙◌, subst, arith, length-append}
use Rattle.std.specs.declared.alloc.Global.{Global}
use Rattle.sms_file.specs.Crash.{File, octets_of}
use Rattle.sms_file.specs.Memory.{HadBeen, MayLeave}

abbrev Contents : Type 0
Contents = List (Option (Vec ℕ Global))

adds : (past : Contents) (f : Option (Vec ℕ Global)) (c : File) → HadBeen (past ++ f ∷ []) c → HadBeen past c ⊎ (c ≡ octets_of f)
adds [] f c (inl here) = inr here
adds [] f c (inr none) = absurd none
adds (p ∷ past) f c (inl here) = inl (inl here)
adds (p ∷ past) f c (inr there) = ⊎_elim (λ had. inl (inr had)) (λ new. inr new) (adds past f c there)

drop_push : (t : ℕ) (past : Contents) (f : Option (Vec ℕ Global)) → t ≤ length past → drop t (past ++ f ∷ []) ≡ drop t past ++ f ∷ []
drop_push zero past f le = refl
drop_push (suc t) [] f le = absurd (omega arith)
drop_push (suc t) (p ∷ past) f le = drop_push t past f (omega arith)

pub longer : (past later : Contents) (f : Option (Vec ℕ Global)) → later ≡ past ++ f ∷ [] → length past ≤ length later
longer past later f same = omega (arith, length-append past (f ∷ []), ap (λ (l : Contents). length l) same)

-- what a crash since t might have left
abbrev pub Since : Contents → (disk file : File) → ℕ → File → Type 0
Since past disk file t c = MayLeave disk file c ⊎ HadBeen (drop t past) c

-- The past has one content more, which a crash might have left before.
pub pushed : (past later : Contents) (f : Option (Vec ℕ Global)) (disk file disk₂ file₂ : File) → later ≡ past ++ f ∷ [] → MayLeave disk file (octets_of f)
    → (t : ℕ) (c : File) → t ≤ length past → Since later disk₂ file₂ t c → Since past disk file t c ⊎ MayLeave disk₂ file₂ c
pushed past later f disk file disk₂ file₂ same was t c le left =
    ⊎_elim
    (λ now. inr now)
    (λ had. inl (⊎_elim (λ old. inr old) (λ new. inl (subst (MayLeave disk file) (sym new) was)) (adds (drop t past) f c (subst (λ (l : Contents). HadBeen l c) (ap (drop t) same ∙ drop_push t past f le) had)))) left
