use Rattle.partial_picture.proofs.Common.{◌≡◌}
use Rattle.std.proofs.Common.{Contains, rules}
use Rattle.std.specs.Prelude.{◌==◌}
use Rattle.std.proofs.lemmas.Iterator.{YieldsList-from_slice, YieldsList-from_map_by, items_from_collect}
use Rattle.std.proofs.lemmas.List.Elements.{All-weaker, All-contains_itself}
use Rattle.std.proofs.lemmas.List.Filters.{dedup_is, All-dedup}
use Rattle.std.proofs.lemmas.List.Kept.{Contains-dedup_nat}
use Rattle.std.proofs.lemmas.List.Sorted.{All-permutation, Contains-permutation}
use Rattle.std.proofs.lemmas.Map.Keys.{IsStrictlyIncreasing-dedup}
use Rattle.std.proofs.lemmas.Result.{IfOk-at_ok}
use Rattle.partial_picture.specs.Marks.{touched_by}
use Rattle.partial_picture.proofs.picture.words_of.Goals as goal

-- the sort only moves the words, and `dedup` keeps one of each
pub returns : goal.returns
returns c =
    let all = touched_by c.args.marks.now in
    let sorted = c.sort_unstable.new.self.items in
    let collected : c.in_ok-words.words.items ≡ all = IfOk-at_ok _ c.in_ok-words.was (items_from_collect _ c.collect.ensures.ran
    (YieldsList-from_map_by _ _ _ (YieldsList-from_slice c.args.marks.now cc) c.map.ensures.closure (λ x r q k. search rules))) in
    let moved = rw collected at c.sort_unstable.ensures.permutation in
    let kept = dedup_is ◌==◌ sorted _ c.dedup.ensures.filtered in
    record {
      each = rw kept (All-weaker (Contains all) _ (λ w h. Contains-dedup_nat sorted w (Contains-permutation all sorted w moved h)) all (All-contains_itself all));
      no_other = rw kept (All-dedup ◌==◌ (Contains all) sorted (All-permutation (Contains all) all sorted moved (All-contains_itself all)));
      rising = rw kept (IsStrictlyIncreasing-dedup sorted c.sort_unstable.ensures.sorted);
    }
