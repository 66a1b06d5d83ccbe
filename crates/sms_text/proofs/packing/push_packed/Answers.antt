use Rattle.std.proofs.Common.{◌≡◌, ◌∙◌, ◌+◌, ◌*◌, ◌/◌, ◌≤◌, ◌++◌, ℕ, List, length, take, drop, sym, ap, append_assoc, length-append, arith}
use Rattle.std.proofs.lemmas.List.{take_at, take_all, take-take, take-append-drop, length-take-le}
use Rattle.sms_text.proofs.packing.push_packed.Goals as goal

-- as many octets as given of what is written after the front
front_cut : (front written after rest : List ℕ) (n m p : ℕ) → length front + p ≡ m → m ≤ n → p ≤ length written → take m (take n ((front ++ (written ++ after)) ++ rest)) ≡ front ++ take p written
front_cut front written after rest n m p size le enough =
    let halves : written ≡ take p written ++ drop p written = sym (take-append-drop p written) in
    let parts : (front ++ ((take p written ++ drop p written) ++ after)) ++ rest ≡ (front ++ take p written) ++ (drop p written ++ (after ++ rest)) = simp append_assoc in
    let many : length (front ++ take p written) ≡ m = length-append front (take p written) ∙ omega (arith, size, length-take-le p written enough) in
    take-take m n ((front ++ (written ++ after)) ++ rest) le ∙ ap (λ (l : List ℕ). take m ((front ++ (l ++ after)) ++ rest)) halves ∙ ap (take m) parts ∙ take_at (front ++ take p written) (drop p written ++ (after ++ rest)) m many

-- the front of what was filled up
front_kept : (old more items : List ℕ) (begun n : ℕ) → length old ≡ begun → begun ≤ n → items ≡ take n old ++ more → take begun items ≡ old
front_kept old more items begun n size le is =
    ap (take begun) (is ∙ ap (λ (l : List ℕ). l ++ more) (take_all n old (omega arith))) ∙ take_at old more begun size

pub returns-clause-packed : goal.returns-clause-packed
returns-clause-packed c =
    let begun : ℕ = c.len-begun.result in
    let packed : ℕ = 7 * (length c.args.septets.now / 8) in
    let old : List ℕ = c.args.octets.now.items in
    let now : List ℕ = c.deref_mut.result.now in
    let written : List ℕ = c.put_packed-last.new.octets in
    let size : length old ≡ begun = omega (arith, c.args.octets.now.ok) in
    let filled = c.deref_mut.ensures.value ∙ c.in_ok-resize.ensures.items in
    let front : take begun now ≡ old = front_kept old _ now begun (begun + packed + 1) size (omega arith) filled in
    let many : length written ≡ packed + 1 = omega (arith, c.put_packed-last.auto.octets, c.deref_mut.ensures.len, c.in_ok-resize.ensures.len, c.resize.new.self.ok) in
    let cut = front_cut (take begun now) written _ _ c.resize.new.self.len (begun + packed) packed (omega (arith, ap length front, size)) (omega (arith, c.in_ok-resize.ensures.len)) (omega (arith, many)) in
    (take packed written, c.put_packed-last.ensures.octets, c.truncate.ensures.items ∙ cut ∙ ap (λ (l : List ℕ). l ++ take packed written) front, c.put_packed-last.ensures.bits)
