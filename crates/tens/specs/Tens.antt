-- Document 02, CR 3: the rule of the table of powers of ten. By it entry k is 10^k, and no other table has it (proofs/Tens.antt).
use Rattle.std.specs.Prelude.{ℕ, suc, ◌*◌, ◌<◌, List, ◌≡◌, length, get_or}

-- the powers from 1 to 1,000,000,000
abbrev pub entries : ℕ
entries = 10

-- the first entry is 1, and each next one ten times the last
pub record PowersOfTen (table : List ℕ) : Type 0 where
  pub count : length table ≡ entries
  pub first : get_or table 0 0 ≡ 1
  pub next : (k : ℕ) → suc k < entries → get_or table (suc k) 0 ≡ 10 * get_or table k 0
