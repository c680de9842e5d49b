-- Steps of turns, added up.
use Rattle.std.proofs.Common.{ℕ, ◌+◌, ◌*◌, ◌<◌, ◌≤◌, arith}
use Rattle.std.proofs.Math.Nat.{mul-le-mul_right}

-- one turn more, which is not the last but one of at most n, takes no more than n of them
pub turns : {i n : ℕ} (each start before after : ℕ) → i < n → before ≤ start + i * each → after ≤ before + each → after ≤ start + n * each
turns {i} {n} each start before after less so_far turn =
    let all : (i + 1) * each ≤ n * each = mul-le-mul_right each (omega (arith, less)) in
    omega (arith, all, so_far, turn)
