-- The table of powers of ten: by its rule entry k is 10^k, and one test over the whole table shows the rule.
use Prim.Native.Nat.{ℕ, zero, suc, ◌*◌, ◌^◌, ◌<◌}
use mathlib.Core.Bool.{Bool, true, false, ◌&&◌}
use mathlib.Core.List.{List, [], ◌∷◌}
use mathlib.Core.Path.{◌≡◌, refl, sym, ◌∙◌}
use native.Mathlib.Nat.{pow-suc}
use native.Mathlib.Omega.{arith}
use lib.Dec.{T, eqb, eqb→eq}
use lib.ListN.{length, get_or}
use lib.Seq.{ext_get_or}
use Rattle.tens.specs.Tens.{entries, PowersOfTen}
use Rattle.tens.specs.declared.TheConstants.{TENS}

-- ---- what follows from the rule

pub entry_is_power : {table : List ℕ} → PowersOfTen table → (k : ℕ) → k < entries → get_or table k 0 ≡ 10 ^ k
entry_is_power rule zero h = rule.first
entry_is_power rule (suc k) h = omega (arith, rule.next k h, entry_is_power rule k (omega arith), pow-suc 10 k)

-- so no other table has the rule
pub table_alone : {one other : List ℕ} → PowersOfTen one → PowersOfTen other → one ≡ other
table_alone {one} {other} p q = ext_get_or 0 one other (p.count ∙ sym q.count) same
  where
    same : (k : ℕ) → k < length one → get_or one k 0 ≡ get_or other k 0
    same k h = entry_is_power p k (rw p.count at h) ∙ sym (entry_is_power q k (rw p.count at h))

-- ---- a test over the whole table that shows the rule

-- whether each next entry is ten times the last
unfoldable pub tenfold : List ℕ → Bool
tenfold [] = true
tenfold (x ∷ []) = true
tenfold (x ∷ y ∷ table) = eqb y (10 * x) && tenfold (y ∷ table)

both : (a b : Bool) → T (a && b) → T a × T b
both true b t = (tt, t)
both false b t = absurd t

tenfold_at : (table : List ℕ) → T (tenfold table) → (k : ℕ) → suc k < length table → get_or table (suc k) 0 ≡ 10 * get_or table k 0
unfolding tenfold
tenfold_at [] t k h = absurd (omega arith)
tenfold_at (x ∷ []) t k h = absurd (omega arith)
tenfold_at (x ∷ y ∷ table) t zero h = eqb→eq y (10 * x) (both (eqb y (10 * x)) (tenfold (y ∷ table)) t).0
tenfold_at (x ∷ y ∷ table) t (suc k) h = tenfold_at (y ∷ table) (both (eqb y (10 * x)) (tenfold (y ∷ table)) t).1 k (omega arith)

pub rule_by_test : {table : List ℕ} → length table ≡ entries → get_or table 0 0 ≡ 1 → T (tenfold table) → PowersOfTen table
rule_by_test {table} count first t = record { count = count; first = first; next = λ k h. tenfold_at table t k (omega (arith, count)) }

-- the code's table has it
pub table_rule : PowersOfTen TENS
unfolding tenfold
table_rule = rule_by_test refl refl tt
