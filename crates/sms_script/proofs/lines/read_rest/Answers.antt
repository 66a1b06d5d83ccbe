use Rattle.std.proofs.Common.{◌≡◌, ◌++◌, ◌∷◌, [], ℕ, List, length, arith, rules, inl, refl, true, false, nat_lt, sym, ◌∙◌}
use Rattle.std.proofs.lemmas.List.{length_push}
use Rattle.sms_script.specs.Lines.{line_limit, strip_carriage_return}
use Rattle.sms_script.proofs.SourceLemmas.{Consumes-add}
use Rattle.sms_script.proofs.LineLemmas.{HasNoLineFeed-more, is_longer, is_not_longer, few_octets, few_octets_more}
use Rattle.sms_script.proofs.lines.read_rest.Goals as goal

pub returns-then-is_longer-clause-reads : goal.returns-then-is_longer-clause-reads
returns-then-is_longer-clause-reads g c = λ start before.
    let octet = rw c.in-Ok-Some.field-0-is at c.in-Ok-Some.ensures.gives in
    let raw : List ℕ = c.loop-line.line.items ++ c.in-Ok-Some.octet ∷ [] in
    let test : nat_lt line_limit (length (strip_carriage_return raw)) ≡ true = sym (rw c.deref.ensures.value at c.is_longer.ensures) ∙ c.if-is_longer.true in
    (raw, HasNoLineFeed-more _ _ c.loop-line.invariant.no_feed c.in-Ok-Some.octet-test.1, (Consumes-add _ _ _ _ _ (c.loop-line.invariant.taken start before) octet, inl (record { front = c.loop-line.line.items; octet = c.in-Ok-Some.octet; last = refl; may_be = c.loop-line.invariant.few; longer = is_longer raw test }), few_octets _ _ c.loop-line.invariant.few))

pub push_reserved-requires : goal.push_reserved-requires
push_reserved-requires g c =
    let raw : List ℕ = c.loop-line.line.items ++ c.in-Ok-Some.octet ∷ [] in
    let test : nat_lt line_limit (length (strip_carriage_return raw)) ≡ false = sym (rw c.deref.ensures.value at c.is_longer.ensures) ∙ c.if-is_longer.false in
    let few = few_octets_more c.loop-line.line.items c.in-Ok-Some.octet (is_not_longer raw test) in
    let room = c.loop-line.invariant.room in
    omega (arith, few, room, length_push c.loop-line.line.items c.in-Ok-Some.octet)

pub loop-line-preserved : goal.loop-line-preserved
loop-line-preserved g c =
    let octet = rw c.in-Ok-Some.field-0-is at c.in-Ok-Some.ensures.gives in
    let raw : List ℕ = c.loop-line.line.items ++ c.in-Ok-Some.octet ∷ [] in
    let test : nat_lt line_limit (length (strip_carriage_return raw)) ≡ false = sym (rw c.deref.ensures.value at c.is_longer.ensures) ∙ c.if-is_longer.false in
    rw c.push_reserved.ensures.items (record {
      works = search rules;
      goes_on = rw c.in-Ok-Some.field-0-is at c.in-Ok-Some.ensures.ended;
      no_feed = HasNoLineFeed-more _ _ c.loop-line.invariant.no_feed c.in-Ok-Some.octet-test.1;
      few = is_not_longer raw test;
      room = search rules;
      taken = λ start before. Consumes-add _ _ _ _ _ (c.loop-line.invariant.taken start before) octet;
    })
