-- One turn of a walker that frees the last device that it keeps.
use Rattle.contest_machine.proofs.Prelude.{◌≡◌, ◌≢◌, ℕ, ◌<◌, List, [], ◌∷◌, ◌++◌, Some, Contains, arith, ◌⊎◌, inl, inr, subst, sym, refl, ap, ◌∙◌, append-nil, cases_eq, Contains-append_left, Contains-append_right, Contains-append_cases, PortRef, Registers, Device, entered, node_at, AllRegisters, paths_of, node_at-entered, Contains-first, Contains-cases, Write, after_access, with_device-at, with_device-other, Free, Walker, last_path, but_last, freeing, Keeps, AreOnce, IsMine}
use Rattle.contest_machine.proofs.Keeping.Lists.{Leads, once-front, once-last, split_last}
use Rattle.contest_machine.proofs.Keeping.Frame.{Does, Nothing, Frees, IsTurn}
use Rattle.contest_machine.proofs.Keeping.Reading.{lock_left, locked-own}
use Rattle.contest_machine.proofs.Keeping.Turning.{Leaves, freeing_mine}
use Rattle.contest_machine.proofs.Keeping.Stepped.{at_stage, one_node}

-- the last device is freed
module _ (w : Walker) (old : AllRegisters) (fits : w.id < 0xff) (at : PortRef)
    (enters : entered w.view (last_path w.devices) ≡ Some at) (mine : IsMine (at_stage w Free) old)
  where
    abbrev new : AllRegisters
    new = after_access old at (Write 0x68 w.id)

    parts : paths_of w.devices ++ [] ≡ paths_of (but_last w.devices) ++ last_path w.devices ∷ []
    parts = append-nil (paths_of w.devices) ∙ split_last w.devices mine.knows

    beside : (node : ℕ) → node ≢ at.node → new node ≡ old node
    beside node apart = with_device-other old at.node node _ apart

    last_leads : node_at w.view (last_path w.devices) ≡ Some at.node
    last_leads = node_at-entered w.view (last_path w.devices) at enters

    whole : new at.node ≡ record (old at.node) { lock = 0xffff }
    whole =
        with_device-at old at.node _ ∙ (lock_left (old at.node) at.port w.id
        ∙ ap (λ n. record (old at.node) { lock = n })
        (locked-own (old at.node).lock w.id (mine.locks at.node last) fits))
      where
        last : Keeps (at_stage w Free) at.node
        last = (
          last_path w.devices,
          subst (λ l. Contains l (last_path w.devices)) (sym parts)
              (Contains-append_right (paths_of (but_last w.devices)) (last_path w.devices ∷ [])
              (last_path w.devices) (Contains-first (last_path w.devices) [])),
          last_leads,
        )

    freed : (new at.node).lock ≡ 0xffff
    freed = ap (λ (d : Registers). d.lock) whole

    once : AreOnce w.view (paths_of (but_last w.devices) ++ last_path w.devices ∷ [])
    once = subst (AreOnce w.view) parts mine.once

    rest_kept : (path : List ℕ) → Contains (paths_of (but_last w.devices)) path
        → Contains (paths_of w.devices ++ []) path
    rest_kept path listed =
        subst (λ l. Contains l path) (sym parts)
        (Contains-append_left (paths_of (but_last w.devices)) (last_path w.devices ∷ []) path
        listed)

    apart : (path : List ℕ) (node : ℕ) → Contains (paths_of (but_last w.devices)) path
        → node_at w.view path ≡ Some node → node ≢ at.node
    apart path node listed leads same =
        once-last w.view (paths_of (but_last w.devices)) (last_path w.devices) path once listed
        (leads ∙ (ap (λ n. Some n) same ∙ sym last_leads))

    stays : (node : ℕ) → Leads w.view (paths_of (but_last w.devices) ++ []) node
        → new node ≡ old node
    stays node leads =
        beside node (apart leads.0 node
        (subst (λ l. Contains l leads.0) (append-nil (paths_of (but_last w.devices))) leads.1)
        leads.2)

    to_more : (node : ℕ) → Leads w.view (paths_of (but_last w.devices) ++ []) node
        → Keeps (at_stage w Free) node
    to_more node leads = (
      leads.0,
      rest_kept leads.0
          (subst (λ l. Contains l leads.0) (append-nil (paths_of (but_last w.devices))) leads.1),
      leads.2,
    )

    from_more : (node : ℕ) → Keeps (at_stage w Free) node
        → Leads w.view (paths_of (but_last w.devices) ++ []) node ⊎ (node ≡ at.node)
    from_more node keeps =
        go (Contains-append_cases (paths_of (but_last w.devices)) (last_path w.devices ∷ []) keeps.0
        (subst (λ l. Contains l keeps.0) parts keeps.1))
      where
        here : (last_path w.devices ≡ keeps.0) ⊎ Contains [] keeps.0
            → Leads w.view (paths_of (but_last w.devices) ++ []) node ⊎ (node ≡ at.node)
        here (inl same) =
            inr (one_node w.view (last_path w.devices) at node enters
            (ap (λ p. node_at w.view p) same ∙ keeps.2))
        here (inr none) = absurd (omega (arith, none.1))

        go : Contains (paths_of (but_last w.devices)) keeps.0
            ⊎ Contains (last_path w.devices ∷ []) keeps.0
            → Leads w.view (paths_of (but_last w.devices) ++ []) node ⊎ (node ≡ at.node)
        go (inl found) =
            inl (
              keeps.0,
              Contains-append_left (paths_of (but_last w.devices)) [] keeps.0 found,
              keeps.2,
            )
        go (inr found) = here (Contains-cases (last_path w.devices) [] keeps.0 found)

    does : (after : Walker) (node : ℕ) → (node ≡ at.node) ⊎ (node ≢ at.node)
        → Does (at_stage w Free) after old new node
    does after node (inl same) =
        Frees (subst (Keeps (at_stage w Free)) (sym same) (
          last_path w.devices,
          subst (λ l. Contains l (last_path w.devices)) (sym parts)
              (Contains-append_right (paths_of (but_last w.devices)) (last_path w.devices ∷ [])
              (last_path w.devices) (Contains-first (last_path w.devices) [])),
          last_leads,
        ))
        (ap (λ n. (new n).lock) same ∙ freed)
        (ap (λ n. new n) same ∙ (whole
        ∙ ap (λ n. record (old n) { lock = 0xffff }) (sym same)))
    does after node (inr other) = Nothing (beside node other)

    lost : (after : Walker) → ((node : ℕ)
        → Leads w.view (paths_of (but_last w.devices) ++ []) node → Keeps after node)
        → (node : ℕ) → ¬ Keeps after node
        → Leads w.view (paths_of (but_last w.devices) ++ []) node ⊎ (node ≡ at.node)
        → (new node).lock ≡ 0xffff
    lost after more node none (inl leads) = absurd (none (more node leads))
    lost after more node none (inr same) = ap (λ n. (new n).lock) same ∙ freed

    freed_turn : (devices : List Device) → ((node : ℕ) → Leads w.view (paths_of devices ++ []) node
        → Leads w.view (paths_of (but_last w.devices) ++ []) node)
        → ((node : ℕ) → Leads w.view (paths_of (but_last w.devices) ++ []) node
        → Leads w.view (paths_of devices ++ []) node)
        → IsTurn (at_stage w Free) (freeing (at_stage w Free) devices) old new
    freed_turn [] less more = record {
      id = refl;
      does = λ node. does (freeing (at_stage w Free) []) node (cases_eq node at.node);
      grows = λ node keeps. inl (to_more node (less node keeps));
      shrinks = λ node keeps none.
          lost (freeing (at_stage w Free) []) more node none (from_more node keeps);
      claimed = λ node claimed. absurd (cc);
    }
    freed_turn (device ∷ rest) less more = record {
      id = refl;
      does = λ node. does (freeing (at_stage w Free) (device ∷ rest)) node
          (cases_eq node at.node);
      grows = λ node keeps. inl (to_more node (less node keeps));
      shrinks = λ node keeps none.
          lost (freeing (at_stage w Free) (device ∷ rest)) more node none
          (from_more node keeps);
      claimed = λ node claimed. absurd (cc);
    }

    pub free_leaves : Leaves (at_stage w Free) old
        (freeing (at_stage w Free) (but_last w.devices)) new
    free_leaves = (
      freed_turn (but_last w.devices) (λ node k. k) (λ node k. k),
      freeing_mine (record w { devices = but_last w.devices; tried = [] }) new fits locks tags
          fewer tt
          (but_last w.devices) locks tags fewer,
    )
      where
        locks : (node : ℕ) → Leads w.view (paths_of (but_last w.devices) ++ []) node
            → (new node).lock ≡ w.id
        locks node leads =
            ap (λ (d : Registers). d.lock) (stays node leads)
            ∙ mine.locks node (to_more node leads)

        all_kept : (path : List ℕ) → Contains (paths_of (but_last w.devices)) path
            → Contains (paths_of w.devices) path
        all_kept path listed =
            subst (λ l. Contains l path) (append-nil (paths_of w.devices)) (rest_kept path listed)

        tags : (path : List ℕ) (node : ℕ) → Contains (paths_of (but_last w.devices)) path
            → node_at w.view path ≡ Some node → (new node).tag ≢ 0
        tags path node listed leads none =
            mine.tags path node (all_kept path listed) leads
            (ap (λ (d : Registers). d.tag) (sym (beside node (apart path node listed leads)))
            ∙ none)

        fewer : AreOnce w.view (paths_of (but_last w.devices) ++ [])
        fewer =
            subst (AreOnce w.view) (sym (append-nil (paths_of (but_last w.devices))))
            (once-front w.view (paths_of (but_last w.devices)) (last_path w.devices) once)
