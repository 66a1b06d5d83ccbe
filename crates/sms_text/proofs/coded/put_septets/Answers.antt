use Rattle.std.proofs.Common.{◌≡◌, ◌∙◌, ◌+◌, ◌-◌, ◌++◌, List, ℕ, take, drop, ap, subst, sym, length, arith, length-append}
use Rattle.std.specs.Str.{chars, IsUtf8, IsCharBoundary}
use Rattle.std.proofs.lemmas.Bool.{eqb-true}
use Rattle.std.proofs.lemmas.Str.{IsUtf8-drop, chars-nil}
use Rattle.std.proofs.lemmas.List.{nil_from_length}
use Rattle.std.proofs.lemmas.Slice.{take-put_mid}
use Rattle.sms_text.specs.Inside.Same.{AreSame}
use Rattle.sms_text.proofs.SameRuns.{septets_block, no_character_left, cut_after, block_after}
use Rattle.sms_text.proofs.coded.put_septets.Goals as goal

-- a text may be cut behind sixteen such octets
cut_there : (bs rest block others : List ℕ) → bs ≡ rest → bs ≡ block ++ others → AreSame block → length block ≡ 16 → IsUtf8 rest → (rest ≡ block ++ others) × IsCharBoundary rest 16
cut_there bs rest block others is parts are sixteen text =
    let e : rest ≡ block ++ others = sym is ∙ parts in
    (e, subst (IsCharBoundary rest) sixteen (cut_after rest block others e are (omega (arith, sixteen)) text))

pub split_at-requires : goal.split_at-requires
split_at-requires c = (cut_there _ c.loop-rest.rest.now c.in-Some.block.now c.in-Some.field-0-1.now c.as_bytes.ensures.value c.in-Some.ensures.0 c.in-Some.ensures.1 c.in-Some.ensures.2 c.loop-rest.invariant.text).1

pub loop-rest-preserved-in-Some : goal.loop-rest-preserved-in-Some
loop-rest-preserved-in-Some c =
    let rest : List ℕ = c.loop-rest.rest.now in
    let block : List ℕ = c.in-Some.block.now in
    let others : List ℕ = c.in-Some.field-0-1.now in
    let at : ℕ = c.loop-rest.at in
    let size = ap length c.copy_from_slice.ensures.after in
    let sixteen = c.in-Some.ensures.2 in
    let cut = cut_there _ rest block others c.as_bytes.ensures.value c.in-Some.ensures.0 c.in-Some.ensures.1 sixteen c.loop-rest.invariant.text in
    let new = take-put_mid at (at + 16 - at) c.loop-rest.out c.copy_from_slice.new.self (at + 16) (omega (arith, size, sixteen)) (omega (arith, c.loop-rest.invariant.room)) in
    let after : c.split_at.result.1.now ≡ others = c.split_at.ensures.back ∙ sym (block_after rest block others cut.0 ∙ ap (λ (n : ℕ). drop n rest) sixteen) in
    record {
      text = subst IsUtf8 (sym c.split_at.ensures.back) (IsUtf8-drop rest 16 c.loop-rest.invariant.text cut.1);
      so_far = rw after (septets_block (take at c.loop-rest.out) _ block others rest _ cut.0 c.in-Some.ensures.1 (new ∙ ap (λ (l : List ℕ). take at c.loop-rest.out ++ l) c.copy_from_slice.ensures.after) c.loop-rest.invariant.so_far);
      room = omega (arith, ap length after, ap length cut.0, length-append block others, sixteen, c.loop-rest.invariant.room);
    }

pub returns-clause-septets : goal.returns-clause-septets
returns-clause-septets c =
    let rest = c.loop-rest.rest.now in
    let is_empty = nil_from_length rest (eqb-true _ _ (sym c.is_empty.ensures ∙ c.loop-rest-test.false)) in
    no_character_left (take c.loop-rest.at c.loop-rest.out) (chars rest) _ (ap chars is_empty ∙ chars-nil) c.loop-rest.invariant.so_far
