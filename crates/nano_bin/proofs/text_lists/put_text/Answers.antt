use Rattle.std.proofs.Common.{rules, ◌≡◌, ◌+◌, ◌≤◌, ◌++◌, ◌∙◌, ℕ, List, take, length, ap, arith}
use Rattle.std.proofs.Common.{append_assoc}
use Rattle.std.proofs.lemmas.Slice.{take-put_mid, overwrites}
use borrow.Rule.Slice.PartMut.{put_mid}
use Rattle.nano_bin_bytes.specs.Scalars.{little_endian}
use Rattle.nano_bin_bytes.specs.NumberImpls.{length-little_endian}
use Rattle.nano_bin.proofs.text_lists.put_text.Goals as goal

-- what two writes, one after the other, leave up to their end
two_writes : (a m e k n : ℕ) (xs ys zs : List ℕ) → m ≡ a + length ys → k ≡ length ys → m ≤ length xs → e ≡ m + length zs → take e (put_mid m n (put_mid a k xs ys) zs) ≡ take a xs ++ (ys ++ zs)
two_writes a m e k n xs ys zs first width inside second =
    let fits : a ≤ length xs = omega arith in
    let long : m ≤ length (put_mid a k xs ys) = search (rules, overwrites) in
    take-put_mid m n (put_mid a k xs ys) zs e second long ∙ (ap (λ l. l ++ zs) (take-put_mid a k xs ys m first fits) ∙ append_assoc (take a xs) ys zs)

pub returns : goal.returns
returns c =
    let place = c.args.place in
    let head = c.copy_from_slice.new.self in
    let text = c.copy_from_slice-2.new.self in
    let first : head ≡ little_endian 8 (length c.args.text.now) = c.copy_from_slice.ensures.after ∙ c.to_bytes.ensures in
    let width : length head ≡ 8 = ap length first ∙ length-little_endian 8 (length c.args.text.now) in
    let second : text ≡ c.args.text.now = c.copy_from_slice-2.ensures.after in
    let long : length text ≡ length c.args.text.now = ap length second in
    record {
      ends = omega arith;
      put =
          two_writes place (place + 8) _ _ _ c.args.bytes.now head text (omega arith) (omega arith) (omega arith) (omega arith)
          ∙ (λ i. take place c.args.bytes.now ++ (first i ++ second i));
    }
