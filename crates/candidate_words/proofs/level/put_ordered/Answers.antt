-- `candidate_words::level::put_ordered` meets its contract. The batches begin at the seed; the moves follow.
use Rattle.std.proofs.Common.{◌≡◌, ◌∙◌, ◌≤◌, ◌-◌, ℕ, List, arith, take, length, drop, length-drop, take_all}
use Rattle.records.specs.declared.tables.Table.{Table}
use Rattle.offers.specs.Offers.{seed_of}
use Rattle.candidate_words.specs.Candidates.{level_offers}
use Rattle.records.specs.Tables.{tables_of}
use Rattle.candidate_words.specs.Writing.{fit-left, fit-right, written-append}
use Rattle.offers.specs.Batches.{seed_small}
use Rattle.candidate_words.proofs.level.put_ordered.Goals as goal

-- the run is what is left of the order
module _ (ts : List Table) (ps : List ℕ) (from : ℕ) (e : from ≡ seed_of ts ps) where
  within : from ≤ length ps
  within = rw e (seed_small ts ps)

  run : take (length ps - from) (drop from ps) ≡ drop (seed_of ts ps) ps
  run = take_all (length ps - from) (drop from ps) (simp length-drop (omega arith)) ∙ rw e

pub offset_bounds-order-from : goal.offset_bounds-order-from
offset_bounds-order-from c = omega (arith, within _ _ _ c.seed-from.ensures)

pub slice_bounds-put_batches-count : goal.slice_bounds-put_batches-count
slice_bounds-put_batches-count c = within _ _ _ c.seed-from.ensures

pub slice_bounds-put_batches-start : goal.slice_bounds-put_batches-start
slice_bounds-put_batches-start c = within _ _ _ c.seed-from.ensures

pub put_batches-middle-requires : goal.put_batches-middle-requires
unfolding level_offers
put_batches-middle-requires c =
    let run = run (tables_of c.args.tables.now) c.args.order.now _ c.seed-from.ensures in
    record { level_bound = c.requires.level_bound; fit = rw run (fit-left _ _ _ c.requires.fit) }

pub put_moves-requires : goal.put_moves-requires
unfolding level_offers
put_moves-requires c =
    let run = run (tables_of c.args.tables.now) c.args.order.now _ c.seed-from.ensures in
    record { level_bound = c.requires.level_bound; fit = rw c.free_moves-b.ensures.places (fit-right _ _ _ _ _ _ _ _ c.requires.fit (rw run at c.put_batches-middle.ensures)) }

pub returns : goal.returns
unfolding level_offers
returns c =
    let run = run (tables_of c.args.tables.now) c.args.order.now _ c.seed-from.ensures in
    written-append _ _ _ _ _ _ _ _ _ _ _ (rw run at c.put_batches-middle.ensures) (rw c.free_moves-b.ensures.places at c.put_moves.ensures)
