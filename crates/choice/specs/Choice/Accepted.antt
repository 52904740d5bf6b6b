-- What an accepted call of `pick_best_cause_aware` may rely on.
use Rattle.std.specs.Prelude.{◌≡◌, refl, Bool, true, false, not, ◌&&◌, ◌||◌, List, ℕ, ◌-◌, ◌%◌, ◌^◌, ◌≤◌, ◌<◌, length, leb, ltb, eqb}
use Rattle.std.proofs.Common.{sym, true≢false, arith, lit<, ltb-true, ltb-false, leb-true, eqb-true}
use Rattle.std.proofs.Math.ListN.{get_or-eq_default}
use Rattle.std.proofs.lemmas.Bool.{not-false}
use Rattle.faults.specs.Limits.{max_candidates}
use Rattle.lists.specs.Any.{any_of, any_at}
use Rattle.kinds.specs.declared.vector.PressureVector.{PressureVector}
use Rattle.candidate_records.specs.declared.Candidate.{Candidate}
use Rattle.candidate_records.specs.Candidates.{candidates_of, estimates_of, candidate_at, no_candidate}
use Rattle.candidate_faults.specs.Candidates.{fits_kind, candidate_broken, broken_candidates}
use Rattle.choice.specs.Choice.Call.{pick_checks, pick_fault}
use Rattle.refusals.specs.Checks.{none_found}
use Rattle.lists.specs.Tests.{neither, both, by-test}

-- every level fits a u32
abbrev pub LevelsFit : List ℕ → Type 0
LevelsFit cw = (k : ℕ) → (candidate_at (candidates_of cw) k).level < 2 ^ 32

pub record Pickable (cw ew : List ℕ) : Type 0 where
  pub few : length (candidates_of cw) ≤ max_candidates
  pub levels : LevelsFit cw
  pub paired : length (candidates_of cw) ≡ length (estimates_of ew)

-- a test that holds bounds the level
abbrev Bounds : Candidate → Bool → Type 0
Bounds c b = b ≡ true → c.level < 2 ^ 32

low : (c : Candidate) (b : Bool) → Bounds c (leb c.level (2 ^ 32 - 1) && b)
low c b h = omega (arith, leb-true c.level (2 ^ 32 - 1) (both (leb c.level (2 ^ 32 - 1)) b h).0)

good-level : (c : Candidate) → Bounds c (fits_kind c)
unfolding fits_kind
good-level c =
    by-test (Bounds c) (eqb c.kind 1) _ _ (λ k h. omega (arith, eqb-true c.level 0 (both (eqb c.level 0) (eqb c.batch_len 0) h).0))
    (λ k. by-test (Bounds c) (eqb c.kind 2) _ _ (λ m. low c _) (λ m. by-test (Bounds c) (eqb c.kind 3) _ _ (λ n. low c _) (λ n h. absurd (true≢false (sym h)))))

-- past the last, the level is 0
level-at : (cs : List Candidate) → any_of candidate_broken cs ≡ false → (k : ℕ) → (candidate_at cs k).level < 2 ^ 32
level-at cs e k = go (ltb k (length cs)) refl
  where
    go : (t : Bool) → ltb k (length cs) ≡ t → (candidate_at cs k).level < 2 ^ 32
    go true h = good-level (candidate_at cs k) (not-false _ (any_at candidate_broken no_candidate cs k e (ltb-true k (length cs) h)))
    go false h = rw (get_or-eq_default cs no_candidate (ltb-false k (length cs) h)) (lit< tt)

pub pickable : (v : PressureVector) (cw ew : List ℕ) → pick_fault v cw ew ≡ 0 → Pickable cw ew
unfolding pick_fault
pickable v cw ew e =
    let cs = candidates_of cw in
    let es = estimates_of ew in
    let z = none_found (pick_checks v cw ew) tt e in
    let broken = neither (broken_candidates cw) (not (eqb (length ew % 9) 0) || not (eqb (length cs) (length es))) z.1.0 in
    let kinds : any_of candidate_broken cs ≡ false = (neither (not (eqb (length cw % 6) 0)) (any_of candidate_broken cs) broken.0).1 in
    record {
      few = ltb-false max_candidates (length cs) z.0;
      levels = level-at cs kinds;
      paired = eqb-true (length cs) (length es) (not-false (eqb (length cs) (length es)) (neither (not (eqb (length ew % 9) 0)) (not (eqb (length cs) (length es))) broken.1).1);
    }
