use Rattle.partial_model.proofs.{Common.{ℕ, ◌≡◌, ◌<◌, length, slice_index_or, [], ◌∷◌, ◌++◌, slice_get, Some, sym, ap, subst, ◌∙◌, arith, length-set, slice_get-get_or, Applied, AreListsOf}, IndexLaws.{list_at_within, lists_more}, NotesLemmas.AllByRecursion-get}
use Rattle.partial_model.proofs.checker.index.places_of.Goals as goal

pub loop-place-preserved : goal.loop-place-preserved
loop-place-preserved c =
    let e : Applied = slice_index_or c.args.history.now c.loop-place.place (record { port = 0; component = 0; value = 0; stamp = 0 }) in
    let stands : slice_get c.args.history.now c.loop-place.place ≡ Some e =
    slice_get-get_or c.args.history.now c.loop-place.place (record { port = 0; component = 0; value = 0; stamp = 0 }) c.loop-place-test.true in
    let within : e.component < length c.loop-place.lists.items = subst (λ (n : ℕ). e.component < n) (sym c.loop-place.invariant.len)
    (AllByRecursion-get (λ (f : Applied). f.component < c.args.components) c.args.history.now c.loop-place.place e c.requires stands) in
    record {
      len = length-set c.loop-place.lists.items _ c.push.new.self ∙ c.loop-place.invariant.len;
      listed = lists_more c.args.history.now c.loop-place.place c.loop-place.lists.items e c.push.new.self c.loop-place.invariant.listed stands within
          (c.in_ok-push.ensures.items ∙ ap (λ l. l ++ c.loop-place.place ∷ []) (ap (λ v. v.items) c.index_mut.ensures.value ∙ list_at_within c.loop-place.lists.items _ _ within));
    }

pub returns : goal.returns
returns c =
    let all : c.loop-place.place ≡ length c.args.history.now = omega arith in
    subst (λ (n : ℕ). AreListsOf c.args.history.now n c.loop-place.lists.items) all c.loop-place.invariant.listed
