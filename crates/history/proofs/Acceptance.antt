-- A history passes its check exactly if it is accepted: each field of the table says what 02 says of that part of a year's data.
-- Assumes nothing.
use mathlib.Core.Path.{◌≡◌, sym, ◌∙◌}
use mathlib.Core.List.{List}
use Prim.Native.Nat.{ℕ, ◌+◌, ◌*◌, ◌-◌, ◌<◌, ◌≤◌}
use native.Mathlib.Decide.{dec_lt}
use native.Mathlib.Nat.{zero-add}
use native.Mathlib.Omega.{arith}
use lib.ListN.{length}
use lib.IntN.{ℤ, pos, negsuc, neg_ℤ, nat_abs}
use lib.Signed.{◌≤ℤ◌}
use borrow.Author.Tests.{eqb-true, le-leb, lt-leb}
use Rattle.arithmetic.proofs.Difference.{≤-parts}
use Rattle.little_endian.specs.Bytes.{byte_at, i32_at}
use Rattle.basis.specs.Basis.{Basis, basis_of}
use Rattle.outcome.proofs.Outcome.{unless-passed, both-passed, first-passed}
use Rattle.outcome.specs.Outcome.{passed}
use Rattle.field_check.specs.Field.{field_check, fields_check}
use Rattle.field_check.proofs.Limits.{Between, most, natural, sized}
use Rattle.field_check.proofs.Holds.{Holds, field-holds, field-passes}
use Rattle.run_check.specs.Run.{run_check}
use Rattle.run_check.proofs.Acceptance as runs
use Rattle.block.specs.Blocks.{blocks_check}
use Rattle.history.specs.History.{actual_years, length_needed, history_data, place_of, actual_of, shifted_by, yearly_fields, history_fields}
use Rattle.history.specs.History.{younger_ages, first_remaining, older_ages, second_remaining, history_check, run_and_history_check, Workable}
use Rattle.history.specs.Accepted.{AcceptedHistory, HistoryAcceptance}
use Rattle.history.proofs.RightBlocks.{blocks-right, blocks-pass}
use Rattle.history.proofs.Yearly.{each-year, years-pass}
use Rattle.history.proofs.Ways.{fields-parts, right-length}

-- a number between limits that lie within ±500,000,000
near : {low high : ℤ} (z : ℤ) → neg_ℤ (pos 500_000_000) ≤ℤ low → high ≤ℤ pos 500_000_000 → Between low z high → nat_abs z ≤ 500_000_000
near (pos n) l h b = omega (arith, ≤-parts h, ≤-parts b.most)
near (negsuc n) l h b = omega (arith, ≤-parts l, ≤-parts b.least)

module _ (b : Basis) (history : List ℕ) where
  abbrev Data : List ℕ
  Data = history_data b history

  -- ---- what passes is accepted
  module _ (h : history_check b history ≡ passed) where
    parts : (length history ≡ length_needed b) × (blocks_check 0 (2 * actual_years b) history ≡ passed) × (fields_check Data (history_fields (actual_years b)) ≡ passed)
    unfolding history_check
    parts =
        let p = both-passed _ _ h in
        let q = both-passed (blocks_check 0 (2 * actual_years b) history) _ p.1 in
        (eqb-true _ _ (unless-passed _ _ p.0), q.0, q.1)

    tables : (fields_check Data (yearly_fields first_remaining second_remaining 0 (actual_years b)) ≡ passed)
        × (fields_check Data (yearly_fields younger_ages older_ages 0 (actual_years b)) ≡ passed)
    tables =
        both-passed (fields_check Data (yearly_fields first_remaining second_remaining 0 (actual_years b))) _
        (sym (fields-parts Data (actual_years b)) ∙ parts.2)

    module _ (year : ℕ) (after : b.base < year) (upto : year ≤ b.foundation) where
      abbrev K : ℕ
      K = year - (b.base + 1)

      rates : (field_check Data (shifted_by (0 + 1012 * K) younger_ages) ≡ passed) × (field_check Data (shifted_by (0 + 1012 * K + 506) older_ages) ≡ passed)
      rates = each-year Data younger_ages older_ages (actual_years b) K 0 (omega arith) tables.1

      rests : (field_check Data (shifted_by (0 + 1012 * K) first_remaining) ≡ passed) × (field_check Data (shifted_by (0 + 1012 * K + 506) second_remaining) ≡ passed)
      rests = each-year Data first_remaining second_remaining (actual_years b) K 0 (omega arith) tables.0

      within : (age : ℕ) → 20 ≤ age → age ≤ 150 → nat_abs (actual_of b history age year) ≤ 500_000_000
      unfolding actual_of
      within age low high = by (dec_lt 85 age)
        where
          by : Dec (85 < age) → nat_abs (i32_at Data (1012 * K + place_of age)) ≤ 500_000_000
          by (yes l) =
              let e : 1012 * K + (506 + 4 * (age - 86)) ≡ 0 + 1012 * K + 506 + 0 + 4 * (age - 86) = omega arith in
              rw (lt-leb age 85 l, e)
              (near _ (record { le = tt }) (record { le = tt }) ((field-holds _ _ rates.1).within (age - 86) (omega arith)))
          by (no l) =
              let e : 1012 * K + 4 * (age - 20) ≡ 0 + 1012 * K + 0 + 4 * (age - 20) = omega arith in
              rw (le-leb age 85 (omega arith), e)
              (near _ (record { le = tt }) (record { le = tt }) ((field-holds _ _ rates.0).within (age - 20) (omega arith)))

      first_rest : (at : ℕ) → 264 ≤ at → at < 506 → byte_at Data (1012 * K + at) ≡ 0
      first_rest at low high =
          let e : 0 + 1012 * K + 264 + 1 * (at - 264) ≡ 1012 * K + at = omega arith in
          let m = most (rw e at ((field-holds _ _ rests.0).within (at - 264) (omega arith))) in
          omega (arith, m)

      second-rest : (at : ℕ) → 766 ≤ at → at < 1012 → byte_at Data (1012 * K + at) ≡ 0
      second-rest at low high =
          let e : 0 + 1012 * K + 506 + 260 + 1 * (at - 766) ≡ 1012 * K + at = omega arith in
          let m = most (rw e at ((field-holds _ _ rests.1).within (at - 766) (omega arith))) in
          omega (arith, m)

    accepted : AcceptedHistory b history
    accepted =
        record {
          size = parts.0;
          blocks = λ place l. rw zero-add at (blocks-right 0 (2 * actual_years b) history parts.1 place l);
          actual = λ age year low high after upto. within year after upto age low high;
          first_zeros = λ year at after upto low high. first_rest year after upto at low high;
          second_zeros = λ year at after upto low high. second-rest year after upto at low high;
        }

  -- ---- what is accepted passes
  module _ (a : AcceptedHistory b history) where
    module _ (k : ℕ) (l : k < actual_years b) where
      abbrev Year : ℕ
      Year = b.base + 1 + k

      year-is : Year - (b.base + 1) ≡ k
      year-is = omega arith

      younger-hold : Holds Data (shifted_by (0 + 1012 * k) younger_ages)
      unfolding actual_of
      younger-hold =
          record {
            within = λ i m.
                let e : 1012 * (Year - (b.base + 1)) + 4 * (20 + i - 20) ≡ 0 + 1012 * k + 0 + 4 * i = omega arith in
                let r = rw (le-leb (20 + i) 85 (omega arith), e) at (a.actual (20 + i) Year (omega arith) (omega arith) (omega arith) (omega arith)) in
                sized 499_999_999 _ r;
          }

      older-hold : Holds Data (shifted_by (0 + 1012 * k + 506) older_ages)
      unfolding actual_of
      older-hold =
          record {
            within = λ i m.
                let e : 1012 * (Year - (b.base + 1)) + (506 + 4 * (86 + i - 86)) ≡ 0 + 1012 * k + 506 + 0 + 4 * i = omega arith in
                let r = rw (lt-leb (86 + i) 85 (omega arith), e) at (a.actual (86 + i) Year (omega arith) (omega arith) (omega arith) (omega arith)) in
                sized 499_999_999 _ r;
          }

      first-hold : Holds Data (shifted_by (0 + 1012 * k) first_remaining)
      first-hold =
          record {
            within = λ i m.
                let e : 1012 * (Year - (b.base + 1)) + (264 + i) ≡ 0 + 1012 * k + 264 + 1 * i = omega arith in
                let z = rw e at (a.first_zeros Year (264 + i) (omega arith) (omega arith) (omega arith) (omega arith)) in
                natural (omega arith) (omega (arith, z));
          }

      second-hold : Holds Data (shifted_by (0 + 1012 * k + 506) second_remaining)
      second-hold =
          record {
            within = λ i m.
                let e : 1012 * (Year - (b.base + 1)) + (766 + i) ≡ 0 + 1012 * k + 506 + 260 + 1 * i = omega arith in
                let z = rw e at (a.second_zeros Year (766 + i) (omega arith) (omega arith) (omega arith) (omega arith)) in
                natural (omega arith) (omega (arith, z));
          }

    fields-pass : fields_check Data (history_fields (actual_years b)) ≡ passed
    fields-pass =
        let fours = years-pass Data first_remaining second_remaining (actual_years b) 0 (λ k l. (field-passes Data _ (first-hold k l), field-passes Data _ (second-hold k l))) in
        let fives = years-pass Data younger_ages older_ages (actual_years b) 0 (λ k l. (field-passes Data _ (younger-hold k l), field-passes Data _ (older-hold k l))) in
        fields-parts Data (actual_years b) ∙ first-passed _ _ fours ∙ fives

    passes : history_check b history ≡ passed
    passes = right-length b history a.size ∙ first-passed _ _ (blocks-pass 0 (2 * actual_years b) history (λ place l. rw zero-add (a.blocks place l))) ∙ fields-pass

-- ---- the theorem
pub history-acceptance : HistoryAcceptance
unfolding run_and_history_check
history-acceptance =
    record {
      accepted = accepted;
      passes = passes;
      basis_accepted = λ run history h.
          let p = both-passed (run_check run) (history_check (basis_of run) history) h in
          record { by_run = runs.accepted run p.0; by_history = accepted (basis_of run) history p.1 };
      basis_passes = λ run history a. first-passed (run_check run) _ (runs.passes run a.by_run) ∙ passes (basis_of run) history a.by_history;
    }

-- ---- what the work asks of it
pub accepted-workable : (run history : List ℕ) → run_and_history_check run history ≡ passed → Workable run history
accepted-workable run history h =
    let a = history-acceptance.basis_accepted run history h in
    record { basis = a.by_run; size = a.by_history.size; actual = a.by_history.actual }
