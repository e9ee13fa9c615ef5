-- The map of the ring.
use Rattle.fabric_map.proofs.Prelude.{◌≡◌, ℕ, zero, suc, ◌<◌, ◌==◌, true, take, List, [], ◌∷◌, Option, Some, None, IsSome, Contains, arith, inl, inr, subst, sym, refl, ap, ◌∙◌, if◌then◌else◌, Contains-get_or, port_at, node_at, IsReached, IsNotAfter, onward, IsMet, Walked, after_all_paths, is_given, AreDescribed, given_ids, IsMap, ring, ring_devices, ring_entries}
use Rattle.fabric_map.proofs.Order.{front_of, front_of-onward}
use Rattle.fabric_map.proofs.Lists.{AllPairs-rising}
use Rattle.fabric_map.proofs.Leading.{leads_before_all, onward_is_followed, each_is_reached}

abbrev later_paths : List (List ℕ)
later_paths =
    (0 ∷ [])
    ∷ (0 ∷ 1 ∷ [])
    ∷ (0 ∷ 1 ∷ 1 ∷ [])
    ∷ (0 ∷ 1 ∷ 1 ∷ 2 ∷ [])
    ∷ (0 ∷ 1 ∷ 2 ∷ [])
    ∷ (0 ∷ 3 ∷ [])
    ∷ []

abbrev ring_paths : List (List ℕ)
ring_paths = [] ∷ later_paths

-- what is true of each of the paths
each : (P : List ℕ → Type 0) → P [] → P (0 ∷ []) → P (0 ∷ 1 ∷ []) → P (0 ∷ 1 ∷ 1 ∷ [])
    → P (0 ∷ 1 ∷ 1 ∷ 2 ∷ []) → P (0 ∷ 1 ∷ 2 ∷ []) → P (0 ∷ 3 ∷ []) → (path : List ℕ)
    → Contains ring_paths path → P path
each P a b c d e f g path (zero, within, same) = subst P same a
each P a b c d e f g path (suc zero, within, same) = subst P same b
each P a b c d e f g path (suc (suc zero), within, same) = subst P same c
each P a b c d e f g path (suc (suc (suc zero)), within, same) = subst P same d
each P a b c d e f g path (suc (suc (suc (suc zero))), within, same) = subst P same e
each P a b c d e f g path (suc (suc (suc (suc (suc zero)))), within, same) = subst P same f
each P a b c d e f g path (suc (suc (suc (suc (suc (suc zero))))), within, same) = subst P same g
each P a b c d e f g path (suc (suc (suc (suc (suc (suc (suc k)))))), within, same) = absurd
    (omega (arith, within))

-- the path of each device
abbrev path_for : Option ℕ → List ℕ
path_for None = []
path_for (Some node) =
    if node == 4 then 0 ∷ []
    else (if node == 5 then 0 ∷ 1 ∷ []
    else (if node == 6 then 0 ∷ 1 ∷ 1 ∷ []
    else (if node == 3 then 0 ∷ 1 ∷ 1 ∷ 2 ∷ []
    else (if node == 2 then 0 ∷ 1 ∷ 2 ∷ []
    else (if node == 1 then 0 ∷ 3 ∷ [] else [])))))

path_for-node : (path : List ℕ) → Contains ring_paths path → path_for (node_at ring path) ≡ path
path_for-node = each (λ path. path_for
    (node_at ring path) ≡ path) refl refl refl refl refl refl refl

-- the device behind a port has the path at this place of the list
met : (path : List ℕ) (port : ℕ) (met_on : List ℕ) → Contains ring_paths met_on
    → node_at ring met_on ≡ node_at ring (onward path port)
    → IsNotAfter met_on (onward path port) → IsMet ring ring_paths (onward path port)
met path port met_on listed same not_after =
    record { met_on = met_on; listed = listed; same_device = same; not_after = not_after }

behind_host : (port : ℕ) → IsSome (node_at ring (onward [] port))
    → IsMet ring ring_paths (onward [] port)
behind_host zero leads = met [] 0 (0 ∷ []) (1, omega arith, refl) refl (inl refl)
behind_host (suc n) leads = absurd (omega (
  arith,
  onward_is_followed ring [] (port_at 0 0)
      (suc n) refl leads,
))

behind_first : (port : ℕ) → IsSome (node_at ring (onward (0 ∷ []) port))
    → IsMet ring ring_paths (onward (0 ∷ []) port)
behind_first zero leads = met (0 ∷ []) 0 [] (0, omega arith, refl) refl (inr tt)
behind_first (suc zero) leads = met (0 ∷ []) 1 (0 ∷ 1 ∷ []) (2, omega arith, refl) refl (inl refl)
behind_first (suc (suc zero)) leads = met (0 ∷ []) 2 (0 ∷ 1 ∷ 1 ∷ []) (3, omega arith, refl) refl
    (inr (inr (refl, inl (omega arith))))
behind_first (suc (suc (suc zero))) leads = met (0 ∷ []) 3 (0 ∷ 3 ∷ [])
    (6, omega arith, refl) refl (inl refl)
behind_first (suc (suc (suc (suc n)))) leads =
    absurd (omega (
      arith,
      onward_is_followed ring (0 ∷ []) (port_at 4 0) (suc (suc (suc
          (suc n)))) refl leads,
    ))

behind_second : (port : ℕ) → IsSome (node_at ring (onward (0 ∷ 1 ∷ []) port))
    → IsMet ring ring_paths (onward (0 ∷ 1 ∷ []) port)
behind_second zero leads = met (0 ∷ 1 ∷ []) 0 (0 ∷ []) (1, omega arith, refl) refl (inr (inr
    (refl, tt)))
behind_second (suc zero) leads = met (0 ∷ 1 ∷ []) 1 (0 ∷ 1 ∷ 1 ∷ []) (3, omega arith, refl) refl
    (inl refl)
behind_second (suc (suc zero)) leads = met (0 ∷ 1 ∷ []) 2 (0 ∷ 1 ∷ 2 ∷ [])
    (5, omega arith, refl) refl (inl refl)
behind_second (suc (suc (suc n))) leads =
    absurd (omega (
      arith,
      onward_is_followed ring (0 ∷ 1 ∷ []) (port_at 5 0) (suc (suc
          (suc n))) refl leads,
    ))

behind_third : (port : ℕ) → IsSome (node_at ring (onward (0 ∷ 1 ∷ 1 ∷ []) port))
    → IsMet ring ring_paths (onward (0 ∷ 1 ∷ 1 ∷ []) port)
behind_third zero leads = met (0 ∷ 1 ∷ 1 ∷ []) 0 (0 ∷ 1 ∷ []) (2, omega arith, refl) refl (inr
    (inr (refl, inr (refl, tt))))
behind_third (suc zero) leads = met (0 ∷ 1 ∷ 1 ∷ []) 1 (0 ∷ []) (1, omega arith, refl) refl (inr
    (inr (refl, tt)))
behind_third (suc (suc zero)) leads = met (0 ∷ 1 ∷ 1 ∷ []) 2 (0 ∷ 1 ∷ 1 ∷ 2 ∷ [])
    (4, omega arith, refl) refl (inl refl)
behind_third (suc (suc (suc n))) leads =
    absurd (omega (
      arith,
      onward_is_followed ring (0 ∷ 1 ∷ 1 ∷ []) (port_at 6 0) (suc (suc
          (suc n))) refl leads,
    ))

behind_each : (path : List ℕ) → Contains ring_paths path → (port : ℕ)
    → IsSome (node_at ring (onward path port)) → IsMet ring ring_paths (onward path port)
behind_each =
    each (λ path. (port : ℕ) → IsSome (node_at ring (onward path port))
    → IsMet ring ring_paths (onward path port))
    behind_host behind_first behind_second behind_third
    (λ port leads. absurd (omega (
      arith,
      onward_is_followed ring (0 ∷ 1 ∷ 1 ∷ 2 ∷ [])
          (port_at 3 0) port refl leads,
    )))
    (λ port leads. absurd (omega (
      arith,
      onward_is_followed ring (0 ∷ 1 ∷ 2 ∷ [])
          (port_at 2 0) port refl leads,
    )))
    (λ port leads. absurd (omega (
      arith,
      onward_is_followed ring (0 ∷ 3 ∷ [])
          (port_at 1 0) port refl leads,
    )))

all_lead : (path : List ℕ) → Contains ring_paths path → IsSome (node_at ring path)
all_lead = each (λ path. IsSome (node_at ring path)) refl refl refl refl refl refl refl

fronts_listed : (path : List ℕ) → Contains ring_paths path → Contains ring_paths (front_of path)
fronts_listed =
    each (λ path. Contains ring_paths (front_of path))
    (0, omega arith, refl) (0, omega arith, refl) (1, omega arith, refl) (2, omega arith, refl)
    (3, omega arith, refl)
    (2, omega arith, refl) (1, omega arith, refl)

ring_walked : Walked ring ring_paths after_all_paths
ring_walked = record {
  host_met = λ before. (0, omega arith, refl);
  leading = λ k d within. all_lead _ (Contains-get_or ring_paths k d within);
  fronts = λ path port listed. subst (Contains ring_paths) (front_of-onward path port)
      (fronts_listed (onward path port) listed);
  once = λ p q one two same. sym (path_for-node p one) ∙ (ap
      (λ o. path_for o) same ∙ path_for-node q two);
  ordered = AllPairs-rising [] later_paths (
    tt,
    (
      inr (refl, tt),
      (
        inr (refl, inr (refl, tt)),
        (
          inr (refl, inr (refl, inr (refl, tt))),
          (inr (refl, inr (refl, inl (omega arith))), (inr (refl, inl (omega arith)), tt)),
        ),
      ),
    ),
  );
  before = λ k d within. leads_before_all ring _ (all_lead _
      (Contains-get_or ring_paths k d within));
  done = λ path port listed leads before. behind_each path listed port leads;
}

-- no path leads to an endpoint without a link
pub unlinked_is_not_reached : ¬ IsReached ring 7
unlinked_is_not_reached reached =
    let end = each_is_reached ring ring_paths 7 ring_walked reached in
    apart end.0 end.1 end.2
  where
    apart : (path : List ℕ) → Contains ring_paths path → node_at ring path ≡ Some 7 → ⊥
    apart = each (λ path. node_at ring path ≡ Some 7 → ⊥)
        (λ same. absurd (cc same)) (λ same. absurd (cc same)) (λ same. absurd (cc same))
        (λ same. absurd (cc same)) (λ same. absurd (cc same)) (λ same. absurd (cc same))
        (λ same. absurd (cc same))

below_one : (n : ℕ) → n < 1 → is_given (take 5 ring_devices) n ≡ true
below_one zero less = refl
below_one (suc n) less = absurd (omega (arith, less))

below_two : (n : ℕ) → n < 2 → is_given (take 6 ring_devices) n ≡ true
below_two zero less = refl
below_two (suc zero) less = refl
below_two (suc (suc n)) less = absurd (omega (arith, less))

ring_described : AreDescribed ring 5 [] ring_devices
ring_described = (
  record { tag = refl; at = port_at 0 0; path = refl; kind = refl },
  (
    record { tag = refl; at = port_at 4 0; path = refl; kind = (refl, refl) },
    (
      record { tag = refl; at = port_at 5 0; path = refl; kind = (refl, refl) },
      (
        record { tag = refl; at = port_at 6 0; path = refl; kind = (refl, refl) },
        (
          record {
            tag = refl;
            at = port_at 3 0;
            path = refl;
            kind = record {
              free = refl;
              least = λ n
                  less. absurd (omega (arith, less));
            };
          },
          (
            record {
              tag = refl;
              at = port_at 2 0;
              path = refl;
              kind = record {
                free = refl;
                least =
                    below_one;
              };
            },
            (
              record {
                tag = refl;
                at = port_at 1 0;
                path = refl;
                kind = record {
                  free = refl;
                  least =
                      below_two;
                };
              },
              tt,
            ),
          ),
        ),
      ),
    ),
  ),
)

pub ring_has_its_map : IsMap ring 5 ring_devices ring_entries
unfolding given_ids
ring_has_its_map = record { walked = ring_walked; described = ring_described; listed = refl }
