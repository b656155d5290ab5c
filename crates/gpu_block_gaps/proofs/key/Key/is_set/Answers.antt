use Rattle.std.proofs.Common.{ap, sym, ◌∙◌, ◌≡◌, ℕ, ◌<◌, ◌^◌, ◌-◌, ◌/◌, ◌%◌, nat_eq, bit_and, arith}
use Rattle.std.proofs.lemmas.Nat.Bits.{shr_and_one, bit_at_cat_low, bit_at_cat_high}
use Rattle.gpu_block_gaps.proofs.key.Key.is_set.Goals.{then-bit-lt-START_BITS, else-bit-lt-START_BITS}
use Rattle.gpu_block_gaps.proofs.key.Key.is_set.Goals as goal

-- the lowest bit of a number that is shifted
abbrev shifted : ℕ → ℕ → ℕ
shifted n k = bit_and (n / 2 ^ k) 1

pub returns : goal.returns
returns c =
    elim c.if-bit-lt-START_BITS.branch [
      | then-bit-lt-START_BITS w ↦ (
          let near : c.args.bit % 64 ≡ c.args.bit = (let lt = w.if-bit-lt-START_BITS.true in omega arith) in
          ap (λ n. nat_eq n 1)
          (ap (λ n. shifted n (c.args.bit % 64)) w.word-is ∙ ap (shifted c.args.self.start) near ∙ shr_and_one c.args.self.start c.args.bit
          ∙ sym (bit_at_cat_low c.args.self.length 64 c.args.self.start c.args.bit w.if-bit-lt-START_BITS.true)))
      | else-bit-lt-START_BITS w ↦ (
          let fits : c.args.self.start < 2 ^ 64 = omega arith in
          let far : c.args.bit % 64 ≡ c.args.bit - 64 = (let ge = w.if-bit-lt-START_BITS.false in omega arith) in
          ap (λ n. nat_eq n 1)
          (ap (λ n. shifted n (c.args.bit % 64)) w.word-is ∙ ap (shifted c.args.self.length) far ∙ shr_and_one c.args.self.length (c.args.bit - 64)
          ∙ sym (bit_at_cat_high c.args.self.length 64 c.args.self.start c.args.bit fits w.if-bit-lt-START_BITS.false)))
    ]
