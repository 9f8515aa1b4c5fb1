-- While one epoch is the current one, arenas come free a bounded number of times.
use Rattle.partial_epochs.proofs.{Common.{ℕ, ◌≡◌, ◌-◌, ◌<◌, Bool, true, Option, Some, IfSome, List, slice_index, refl, sym, ap, subst, ◌∙◌, inl, inr, arith, Noted, Add, put, Site, Plan, at_word, current_word, entering_bit, own_word, seal, unpacked, OwnedArena, Port, StoredEntering, Loaded, Beside, LawfulEpochs, site_now, arrived_port, having_passed, at_next_port, having_given, having_loaded, having_looked, having_put, just_taken, owning_port, having_published, having_set, MayMove, Move, MoveLeads, moved_words, since_after, Makes, Seals, PassesSealed, LooksAsOwner, StoresEnteringWord, LoadsCurrent, ExchangesEnteringWord, Takes, Gives, FindsElsewhere, LoadsEnteringWord, Puts, Sets, Notes, Sees, Rests, FindsClear, KeepsTime}, Entering.{current_is}, Lists.{put_all}, Offsets.packed_arena, Time.steps_keep_sites, TallyAsides.{aside, counts_entering, loads, loads_less, looks, own_stays, own_stays_set, owner, owner_here, owner_less, passed, passed_less, publishes, publishes_less, same_control}, TallyChanges.{counts_entry, counts_give, counts_put, counts_take}, Tally.{IsHeld, held_within, owner_is, some_to}}
use Rattle.partial_epochs.specs.EveryStep.Move.{Looks, Publishes}
use Rattle.partial_epochs.specs.FreeArenas.{Counts, EveryStepCounts, HasMetPort, KeepsTally, LeavesInUse, MayCount, MeetingsKeepTally, OpeningsKeepTally, Tally, met_after}

-- no arena is owned
pub openings_keep_tally : OpeningsKeepTally
openings_keep_tally e words opens = record {
  owners = λ x low some. absurd (some (opens.control (own_word e x) (omega (arith, low))));
  taken = λ k low. omega arith;
  entering_words = λ k low. tt;
  met = λ k low is. tt;
}

-- a meeting has a cause
pub meetings_keep_tally : MeetingsKeepTally
meetings_keep_tally e words ports t k o s owned looked cause = record {
  owners = s.owners;
  taken = s.taken;
  entering_words = s.entering_words;
  met = λ q low. put_all (λ i (c : Bool). i < e.ports → c ≡ true → IfSome (ports i).control.owned (HasMetPort e words (ports i).control t' i)) k true t.met q
      (λ _ _ _. subst (λ (d : Option OwnedArena). IfSome d (HasMetPort e words (ports k).control t' k)) (sym owned) (record { looked = inr looked; cause = cause }))
      (λ _ low met. some_to (HasMetPort e words (ports q).control t q) (HasMetPort e words (ports q).control t' q) (ports q).control.owned (λ _ _ h. record { looked = h.looked; cause = h.cause }) (s.met q low met)) low;
}
  where
    t' : Tally
    t' = record t { met = put k true t.met }

-- the port makes a move
module _ (e : Plan) (words : List ℕ) (ports : ℕ → Port) (b : Beside) (notes : ℕ → List Noted) (k : ℕ) (w : LawfulEpochs e words ports b) (below : k < e.ports) (since : ℕ → ℕ) (t : Tally)
    (time : KeepsTime e words ports (site_now b) since) (s : KeepsTally e words ports t) where
  -- port k becomes p, and c stands beside the words
  abbrev Goal : Move → List ℕ → Port → Beside → (ℕ → ℕ) → Type 0
  Goal m words' p c since' = Counts e words words' ports (put k p ports) (site_now b) (site_now c) since since' t k m

  -- port k is q, which is p
  to : (m : Move) (words' : List ℕ) (p q : Port) (c : Beside) (since' : ℕ → ℕ) → q ≡ p → Goal m words' p c since' → Goal m words' q c since'
  to m words' p q c since' is = subst (λ (r : Port). Goal m words' r c since') (sym is)

  -- no word changes, nor what the port does with the control words
  still : (m : Move) (p : Port) (c : Beside) → p.control ≡ (ports k).control → ((q : ℕ) → t.met q ≡ met_after k m t.met q) → LeavesInUse e words t t m → Goal m words p c since
  still m p c same met leaves = same_control e words ports b k w below since t s m words p c (λ q low. refl) (λ x low. refl) same met leaves

  -- an owner's arena in another state, with no word changed
  owns : (m : Move) (p : Port) (c : Beside) (o o' : OwnedArena) → (ports k).control.owned ≡ Some o → o'.arena ≡ o.arena → o'.looked ≡ o.looked → IfSome o'.entering_word (IsHeld e words t k o') →
      ((q : ℕ) → t.met q ≡ met_after k m t.met q) → LeavesInUse e words t t m → p ≡ owning_port (ports k) o' → Goal m words p c since
  owns m p c o o' is arena looked entering_word met leaves same =
      to m words (owning_port (ports k) o') p c since same
      (aside e words ports b k w below since t s m words (owning_port (ports k) o') c
      (owner e words ports b k w below since t s o o' is arena (λ so. looked ∙ so) entering_word words (λ q low. refl) (λ x low. refl))
      (λ _. owner_less e words ports b k w below since t s o o' is arena (λ so. looked ∙ so) entering_word words (λ q low. refl) (λ x low. refl) looked) met leaves)

  -- the entering word that an owner holds
  held : (o : OwnedArena) → (ports k).control.owned ≡ Some o → IfSome o.entering_word (IsHeld e words t k o)
  held o is = subst (λ (d : Option OwnedArena). IfSome d (λ o. IfSome o.entering_word (IsHeld e words t k o))) is (held_within e words ports b w t s k below)

  -- each move counts
  counts : (m : Move) → MayMove e words ports b notes k m → MayCount (ports k) t k m → (l : MoveLeads e words (moved_words e words (ports k) k m) ports b notes k m) →
      Goal m (moved_words e words (ports k) k m) l.port l.beside (since_after b k m since)
  counts Rests may so l = still Rests l.port l.beside (ap (λ (p : Port). p.control) l.becomes.0) (λ q. refl) tt
  counts (Makes c step noted) may so l = same_control e words ports b k w below since t s (Makes c step noted) (moved_words e words (ports k) k (Makes c step noted)) l.port l.beside
      (λ q low. (steps_keep_sites e words q low).arena (ports k).control.here.arena step) (λ x low. own_stays e words x (ports k).control.here.arena step low)
      (elim l.becomes [
        | inl met ↦ ap (λ (p : Port). p.control) met.2
        | inr leads ↦ ap (λ (p : Port). p.control) leads.1 ∙ leads.0.control
      ]) (λ q. refl) tt
  counts Seals may so l = same_control e words ports b k w below since t s Seals (moved_words e words (ports k) k Seals) l.port l.beside
      (λ q low. (steps_keep_sites e words q low).arena (ports k).control.here.arena (Add (ports k).passed seal))
      (λ x low. own_stays e words x (ports k).control.here.arena (Add (ports k).passed seal) low) (ap (λ (p : Port). p.control) l.becomes.0) (λ q. refl) tt
  counts PassesSealed may so l = still PassesSealed l.port l.beside (ap (λ (p : Port). p.control) l.becomes.0) (λ q. refl) tt
  counts Looks may so l = looks e words ports b k w below since t s Looks (ports k) l.port l.beside l.becomes.0 (λ _. still Looks (ports k) l.beside refl (λ q. refl) tt)
      (aside e words ports b k w below since t s Looks words (having_passed (ports k)) l.beside (passed e words ports b k w below since t s) (λ _. passed_less e words ports b k w below since t s) (λ q. refl) tt)
  counts (LooksAsOwner o) may so l =
      let looked : OwnedArena = record o { looked = true; again = true } in
      looks e words ports b k w below since t s (LooksAsOwner o) (having_looked (ports k) o) l.port l.beside l.becomes.0
      (λ present. aside e words ports b k w below since t s (LooksAsOwner o) words (having_looked (ports k) o) l.beside
      (owner e words ports b k w below since t s o looked may.0 refl (λ _. refl) (held o may.0) words (λ q low. refl) (λ x low. refl))
      (λ _. owner_here e words ports b k w below since t s o looked may.0 refl (λ _. refl) (held o may.0) words (λ q low. refl) (λ x low. refl)
      (owner_is e words ports b w k below o may.0).stands
      (packed_arena e (ports k).control.here (site_now b) w.plan.arenas (w.control.sites k below).arena w.control.site.arena (sym present ∙ current_is e words ports b k w below)).0)
      (λ q. refl) tt)
      (aside e words ports b k w below since t s (LooksAsOwner o) words (having_passed (ports k)) l.beside (passed e words ports b k w below since t s) (λ _. passed_less e words ports b k w below since t s)
      (λ q. refl) tt)
  counts StoresEnteringWord may so l = to StoresEnteringWord (moved_words e words (ports k) k StoresEnteringWord) (record (ports k) { control = record (ports k).control { entering = StoredEntering } }) l.port l.beside
      (since_after b k StoresEnteringWord since) l.becomes.0 (counts_entering e words ports b k w below since t s may.0 may.1 l.beside)
  counts LoadsCurrent may so l =
      let c : Site = unpacked (slice_index words current_word) in
      let p : Port = record (ports k) { control = record (ports k).control { entering = Loaded c } } in
      to LoadsCurrent words p l.port l.beside since l.becomes.0
      (aside e words ports b k w below since t s LoadsCurrent words p l.beside (loads e words ports b k w below since t s may c) (λ _. loads_less e words ports b k w below since t s may c) (λ q. refl) tt)
  counts (ExchangesEnteringWord c) may so l =
      let a = l.becomes.0 in
      to (ExchangesEnteringWord c) (moved_words e words (ports k) k (ExchangesEnteringWord c)) (arrived_port e k a.site a.before) l.port l.beside since l.becomes.1
      (counts_entry e words ports b k w below since t s c may a (l.becomes.4 since time) (site_now l.beside))
  counts (Takes x) may so l = to (Takes x) (moved_words e words (ports k) k (Takes x)) (owning_port (ports k) (just_taken x)) l.port l.beside since l.becomes.0
      (counts_take e words ports b k w below since t s x may.0 may.1 may.2 may.4 so (site_now l.beside))
  counts (Gives o) may so l = to (Gives o) (moved_words e words (ports k) k (Gives o)) (having_given (ports k)) l.port l.beside since l.becomes.0
      (counts_give e words ports b k w below since t s o may so (site_now l.beside))
  counts (FindsElsewhere o d) may so l = owns (FindsElsewhere o d) l.port l.beside o (at_next_port o) may.0 refl refl tt (λ q. refl) tt l.becomes.0
  counts (LoadsEnteringWord o) may so l =
      let high = may.2 in
      owns (LoadsEnteringWord o) l.port l.beside o (having_loaded o (unpacked (slice_index words (at_word o.clean) - entering_bit))) may.0 refl refl (inl (may.1, omega (arith, high))) (λ q. refl) tt l.becomes.0
  counts (Puts o a) may so l = to (Puts o a) (moved_words e words (ports k) k (Puts o a)) (having_put (ports k) o) l.port l.beside since l.becomes.0
      (counts_put e words ports b k w below since t s o a may.0 may.1 may.2 may.4 may.5 may.6 time (site_now l.beside))
  counts (Sets o v next) may so l =
      let o' : OwnedArena = record o { set = next } in
      let at : (q : ℕ) → q < e.ports → slice_index (moved_words e words (ports k) k (Sets o v next)) (at_word q) ≡ slice_index words (at_word q) = λ q low. (steps_keep_sites e words q low).set o.arena o.set v in
      let own : (x : ℕ) → x < e.arenas → slice_index (moved_words e words (ports k) k (Sets o v next)) (own_word e x) ≡ slice_index words (own_word e x) =
      λ x low. own_stays_set e words x o.arena o.set v low in
      to (Sets o v next) (moved_words e words (ports k) k (Sets o v next)) (having_set (ports k) o next) l.port l.beside since l.becomes.0
      (aside e words ports b k w below since t s (Sets o v next) (moved_words e words (ports k) k (Sets o v next)) (having_set (ports k) o next) l.beside
      (owner e words ports b k w below since t s o o' may.0 refl (λ is. is) (held o may.0) (moved_words e words (ports k) k (Sets o v next)) at own)
      (λ _. owner_less e words ports b k w below since t s o o' may.0 refl (λ is. is) (held o may.0) (moved_words e words (ports k) k (Sets o v next)) at own refl) (λ q. refl) tt)
  counts (FindsClear o next) may so l = owns (FindsClear o next) l.port l.beside o (record o { set = next }) may.0 refl refl (held o may.0) (λ q. refl) tt l.becomes.0
  counts (Publishes o) may so l =
      to (Publishes o) (moved_words e words (ports k) k (Publishes o)) (having_published (ports k) o) l.port l.beside since l.becomes.0
      (aside e words ports b k w below since t s (Publishes o) (moved_words e words (ports k) k (Publishes o)) (having_published (ports k) o) l.beside
      (publishes e words ports b k w below since t s o may.owned) (λ _. publishes_less e words ports b k w below since t s o may.owned) (λ q. refl) tt)
  counts (Sees log) may so l = still (Sees log) l.port l.beside (ap (λ (p : Port). p.control) l.becomes.0) (λ q. refl) tt
  counts (Notes n i log) may so l = still (Notes n i log) l.port l.beside (ap (λ (p : Port). p.control) l.becomes.0) (λ q. refl) tt

pub every_step_counts : EveryStepCounts
every_step_counts e words ports b notes k m since t w below may so time s l = counts e words ports b notes k w.epochs below since t time s m may so l
