-- A port changes what it knows, and stays where it is.
use Rattle.partial_epochs.proofs.{Common.{ℕ, ◌≡◌, ◌≢◌, ◌<◌, true, Option, Some, None, IfSome, List, refl, sym, ap, subst, ◌∙◌, put, Plan, Site, IsSite, entering_from, Control, Entering, OwnedArena, IsSiteWord, IsEarlier, IsOld, IsOut, IsOwner, LawfulControl, MayPut, NotInto}, Lists.put_all}

-- port k changes what it knows, and stays where it is
module _ (e : Plan) (words : List ℕ) (cs : ℕ → Control) (now : Site) (holds : ℕ → Option ℕ) (w : LawfulControl e words cs now holds) (k : ℕ) (below : k < e.ports) (c : Control)
    (here : c.here ≡ (cs k).here) (entering : c.entering ≡ (cs k).entering) (past : c.past ≡ true → (cs k).here.epoch < now.epoch)
    (puts : (j : ℕ) (a : Site) → MayPut c j a → MayPut (cs k) j a) where
  abbrev cs' : ℕ → Control
  cs' = put k c cs

  same_here : (q : ℕ) → (cs' q).here ≡ (cs q).here
  same_here q = put_all (λ i (d : Control). d.here ≡ (cs i).here) k c cs q (λ _. here) (λ _. refl)

  same_entering : (q : ℕ) → (cs' q).entering ≡ (cs q).entering
  same_entering q = put_all (λ i (d : Control). d.entering ≡ (cs i).entering) k c cs q (λ _. entering) (λ _. refl)

  puts_then : (q j : ℕ) (a : Site) → MayPut (cs' q) j a → MayPut (cs q) j a
  puts_then q j a = put_all (λ i (d : Control). MayPut d j a → MayPut (cs i) j a) k c cs q (λ _. puts j a) (λ _ h. h)

  pub out_then : (x q : ℕ) → IsOut e words cs x q → IsOut e words cs' x q
  out_then x q h = record {
    without_bit = h.without_bit;
    loaded = λ at. subst (NotInto x) (sym (same_entering q)) (h.loaded (at ∙ ap entering_from (same_here q)));
    put = λ p a low may at. subst (λ (d : Site). d.arena ≢ x) (sym (same_here p)) (h.put p a low (puts_then p q a may) at);
  }

  owner_then : (q : ℕ) (o : OwnedArena) → IsOwner e words cs now holds q o → IsOwner e words cs' now holds q o
  owner_then q o h = record {
    stands = same_entering q ∙ h.stands;
    arena = h.arena;
    apart = subst (λ (d : Site). d.arena ≢ o.arena) (sym (same_here q)) h.apart;
    word = h.word;
    looked = h.looked;
    order = h.order;
    few = h.few;
    out = λ p low within ne. out_then o.arena p (h.out p low within ne);
    older = λ again. subst (λ (d : Site). IfSome o.entering_word (λ a. a.epoch < d.epoch)) (sym (same_here q)) (h.older again);
    held = subst (λ (d : Site). IfSome o.entering_word (λ a. IsSite e a × IsEarlier a d (cs' o.clean).entering)) (sym (same_here o.clean))
        (subst (λ (t : Entering). IfSome o.entering_word (λ a. IsSite e a × IsEarlier a (cs o.clean).here t)) (sym (same_entering o.clean)) h.held);
    all = h.all;
    none = h.none;
  }

  owner_of : (q : ℕ) (t : Option OwnedArena) → IfSome t (IsOwner e words cs now holds q) → IfSome t (IsOwner e words cs' now holds q)
  owner_of q None h = tt
  owner_of q (Some o) h = owner_then q o h

  pub knows_more : IfSome c.owned (IsOwner e words cs now holds k) → LawfulControl e words cs' now holds
  knows_more own = record {
    current = w.current;
    site = w.site;
    present = w.present;
    earlier = w.earlier;
    within = w.within;
    sites = λ q low. subst (IsSite e) (sym (same_here q)) (w.sites q low);
    at = λ q low. subst (λ (d : Site). IsSiteWord e words q d (cs' q).entering) (sym (same_here q)) (subst (IsSiteWord e words q (cs q).here) (sym (same_entering q)) (w.at q low));
    old = λ q low. subst (λ (d : Site). IsOld e now.epoch d (cs' q).entering) (sym (same_here q)) (subst (IsOld e now.epoch (cs q).here) (sym (same_entering q)) (w.old q low));
    past = λ q low. put_all (λ i (d : Control). i < e.ports → d.past ≡ true → d.here.epoch < now.epoch) k c cs q
        (λ _ _ is. subst (λ (d : Site). d.epoch < now.epoch) (sym here) (past is)) (λ _ low. w.past q low) low;
    stands = w.stands;
    comes = λ q d low is at. w.comes q d low (sym (same_entering q) ∙ is) (at ∙ ap entering_from (same_here q));
    owners = λ q low. put_all (λ i (d : Control). i < e.ports → IfSome d.owned (IsOwner e words cs' now holds i)) k c cs q
        (λ _ _. owner_of k c.owned own) (λ _ low. owner_of q (cs q).owned (w.owners q low)) low;
  }
