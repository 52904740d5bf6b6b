-- 01 (c): an estimate's bytes and files are drawn from the tables that the candidate's numbers name, each once a number, and a winner is one of the candidates.
use Rattle.std.specs.Prelude.{Some}
use Prim.Native.Nat.{ℕ, ◌+◌, ◌≤◌, ◌<◌}
use native.Mathlib.Omega.{arith}
use mathlib.Core.Path.{◌≡◌, refl, sym, ap, subst, ◌∙◌}
use mathlib.Core.Bool.{Bool, true, false, cond, true≢false}
use mathlib.Core.List.{List, [], ◌∷◌, ◌++◌, flat_map}
use lib.Dec.{T, eqb, eqb→eq}
use lib.ListN.{length, take}
use borrow.Author.Tests.{eq-eqb, ne_eqb}
use Rattle.lists.specs.Filter.{filter_of, filter-small}
use Rattle.records.specs.declared.tables.Table.{Table}
use Rattle.records.specs.declared.tables.Entry.{Entry}
use Rattle.candidate_records.specs.declared.Candidate.{Candidate}
use Rattle.lookups.specs.Lookups.{lookup}
use Rattle.reliefs.specs.Reliefs.{at_level, bytes_of}
use Rattle.estimates.specs.Estimate.{matched, off_level, is_l0_candidate, inputs_of, estimate_of}
use Rattle.estimates.specs.Estimate.Members.{level_and_rest}
use Rattle.kinds.specs.declared.vector.PressureVector.{PressureVector}
use Rattle.kinds.specs.declared.focus.FocusState.{FocusState}
use Rattle.candidate_records.specs.Candidates.{candidates_of}
use Rattle.choice.specs.Choice.Call.{picked_of}
use Rattle.choice.specs.Choice.Laws.{winner-below}
use Rattle.promises.specs.Drawn.{Lacks, FirstWith, Named, nothing, one, none}

-- ---- the tables that numbers name

module _ (n : ℕ) where
  lacking : (ts : List Table) → Lacks n ts → lookup ts n ≡ []
  unfolding lookup filter_of
  lacking [] l = refl
  lacking (t ∷ ts) l = rw (ne_eqb t.number n l.0) (lacking ts l.1)

  past : (before after : List Table) (t : Table) → t.number ≡ n → Lacks n before → lookup (before ++ t ∷ after) n ≡ t ∷ []
  unfolding lookup filter_of
  past [] after t h l = rw (eq-eqb t.number n h)
  past (u ∷ before) after t h l = rw (ne_eqb u.number n l.0) (past before after t h l.1)

  finding : (ts : List Table) (t : Table) → FirstWith ts n t → lookup ts n ≡ t ∷ []
  finding ts t f = rw f.split (past f.before f.after t f.has f.first)

  -- what a number is looked up as: nothing, or the first table with it
  abbrev Here : List Table → List Table → Type 0
  Here ts [] = Lacks n ts
  Here ts (t ∷ []) = FirstWith ts n t
  Here ts (t ∷ u ∷ more) = ⊥

  further : (t : Table) (ts some : List Table) → ¬ (t.number ≡ n) → Here ts some → Here (t ∷ ts) some
  further t ts [] other h = (other, h)
  further t ts (u ∷ []) other h =
      record { before = t ∷ h.before; after = h.after; split = ap (λ (l : List Table). t ∷ l) h.split; has = h.has; first = (other, h.first) }
  further t ts (u ∷ v ∷ more) other h = h

  here : (ts : List Table) → Here ts (lookup ts n)
  unfolding lookup filter_of
  here [] = tt
  here (t ∷ ts) = go (eqb t.number n) refl (here ts)
    where
      go : (b : Bool) → eqb t.number n ≡ b → Here ts (lookup ts n) → Here (t ∷ ts) (take 1 (cond b (t ∷ filter_of (λ u. eqb u.number n) ts) (filter_of (λ u. eqb u.number n) ts)))
      go true e h = record { before = []; after = ts; split = refl; has = eqb→eq t.number n (subst T (sym e) tt); first = tt }
      go false e h = further t ts (lookup ts n) (λ k. true≢false (sym (eq-eqb t.number n k) ∙ e)) h

module _ (ts : List Table) where
  joined : (n : ℕ) (ns : List ℕ) (some found : List Table) → Here n ts some → Named ts ns found → Named ts (n ∷ ns) (some ++ found)
  joined n ns [] found h d = none h d
  joined n ns (t ∷ []) found h d = one h d
  joined n ns (t ∷ u ∷ more) found h d = absurd h

  pub matched-listed : (ns : List ℕ) → Named ts ns (matched ts ns)
  unfolding flat_map
  matched-listed [] = nothing
  matched-listed (n ∷ ns) = joined n ns (lookup ts n) (matched ts ns) (here n ts) (matched-listed ns)

  pub matched-only : {ns : List ℕ} {found : List Table} → Named ts ns found → found ≡ matched ts ns
  unfolding flat_map
  matched-only nothing = refl
  matched-only (one {n} {ns} {t} {found} f d) = rw (finding n ts t f) (ap (λ (l : List Table). t ∷ l) (matched-only d))
  matched-only (none {n} {ns} {found} l d) = rw (lacking n ts l) (matched-only d)

  named_few : {ns : List ℕ} {found : List Table} → Named ts ns found → length found ≤ length ns
  named_few nothing = omega arith
  named_few (one {n} {ns} {t} {found} f d) = omega (arith, named_few d)
  named_few (none {n} {ns} {found} l d) = omega (arith, named_few d)

-- ---- an estimate, by any tables that the candidate's numbers name: there are such, `matched-listed`, and no others, `matched-only`

module _ (ts : List Table) (next : ℕ) (es : List Entry) (ns : List ℕ) (c : Candidate) (tables : List Table) (named : Named ts (inputs_of ns c) tables) where
  abbrev source : ℕ
  source = cond (is_l0_candidate c) 0 c.level

  pub input_on_level : (estimate_of ts next es ns c).input_bytes ≡ bytes_of (at_level source tables)
  unfolding estimate_of
  input_on_level = rw (matched-only ts named)

  pub overlap_off_level : (estimate_of ts next es ns c).overlap_bytes ≡ bytes_of (off_level source tables)
  unfolding estimate_of
  overlap_off_level = rw (matched-only ts named)

  pub input_and_overlap : (estimate_of ts next es ns c).input_bytes + (estimate_of ts next es ns c).overlap_bytes ≡ bytes_of tables
  unfolding estimate_of
  input_and_overlap = rw (matched-only ts named) (level_and_rest source (matched ts (inputs_of ns c)))

  pub files_counted : (estimate_of ts next es ns c).l0_files_removed ≡ cond (is_l0_candidate c) (length (at_level 0 tables)) 0
  unfolding estimate_of
  files_counted = rw (matched-only ts named)

  -- no more files than numbers
  pub files_few : (estimate_of ts next es ns c).l0_files_removed ≤ length (inputs_of ns c)
  files_few = rw files_counted (go (is_l0_candidate c))
    where
      go : (b : Bool) → cond b (length (at_level 0 tables)) 0 ≤ length (inputs_of ns c)
      go true = omega (arith, filter-small (λ t. eqb t.level 0) tables, named_few ts named)
      go false = omega arith

pub winner-listed : (v : PressureVector) (f : FocusState) (cw ew : List ℕ) (k : ℕ) → (picked_of v f cw ew).winner ≡ Some k → k < length (candidates_of cw)
winner-listed = winner-below
