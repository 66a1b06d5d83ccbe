use Rattle.std.proofs.Common.{◌≡◌, ◌∙◌, ◌+◌, ◌*◌, ◌≤◌, ◌++◌, ℕ, List, length, take, sym, ap, append_assoc, length-append, arith}
use Rattle.std.proofs.lemmas.List.{take_at, take_all}
use Rattle.sms_text.proofs.packing.push_blocks.Goals as goal

-- what is written after the front, with nothing after it
front_written : (front written after rest : List ℕ) (n : ℕ) → length (front ++ written) ≡ n → take n ((front ++ (written ++ after)) ++ rest) ≡ front ++ written
front_written front written after rest n size =
    let parts : (front ++ (written ++ after)) ++ rest ≡ (front ++ written) ++ (after ++ rest) = simp append_assoc in
    ap (take n) parts ∙ take_at (front ++ written) (after ++ rest) n size

-- the front of what was filled up
front_kept : (old more items : List ℕ) (begun n : ℕ) → length old ≡ begun → begun ≤ n → items ≡ take n old ++ more → take begun items ≡ old
front_kept old more items begun n size le is =
    ap (take begun) (is ∙ ap (λ (l : List ℕ). l ++ more) (take_all n old (omega arith))) ∙ take_at old more begun size

pub returns : goal.returns
returns c =
    let begun : ℕ = c.len-begun.result in
    let old : List ℕ = c.args.septets.now.items in
    let now : List ℕ = c.deref_mut.result.now in
    let written : List ℕ = c.put_blocks.new.septets in
    let size : length old ≡ begun = omega (arith, c.args.septets.now.ok) in
    let filled = c.deref_mut.ensures.value ∙ c.in_ok-resize.ensures.items in
    let front : take begun now ≡ old = front_kept old _ now begun (begun + 8 * c.args.blocks) size (omega arith) filled in
    let many : length written ≡ 8 * c.args.blocks = omega (arith, c.put_blocks.auto.septets, c.deref_mut.ensures.len, c.in_ok-resize.ensures.len, c.resize.new.self.ok) in
    let all = sym (take_all (8 * c.args.blocks) written (omega (arith, many))) ∙ c.put_blocks.ensures in
    front_written (take begun now) written _ _ c.resize.new.self.len (length-append (take begun now) written ∙ omega (arith, many, ap length front, c.in_ok-resize.ensures.len)) ∙ ap (λ (l : List ℕ). l ++ written) front ∙ ap (λ (l : List ℕ). old ++ l) all
