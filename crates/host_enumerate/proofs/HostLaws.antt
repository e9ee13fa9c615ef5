-- A name names one host of a script, or none for one reason.
use Rattle.host_enumerate.proofs.Prelude.{◌≡◌, ◌≢◌, ℕ, ◌<◌, ◌≤◌, ◌⊎◌, inl, inr, true, false, List, Some, IsSome, option_map, Result, Ok, Err, refl, sym, ap, ◌∙◌, subst, arith, cases_lt, slice_get-get_or, slice_get_past, Registers, is_switch, new_endpoint, PortRef, registers_of, IsHost, JudgesHost}
use Rattle.fabric_script.proofs.Exclusion.{named_is_there}
use Rattle.host_enumerate.specs.Hosts.{FindsHost, IsFirstNamed}
use Rattle.host_enumerate.specs.declared.devising.NoHost.{NoHost}
use Rattle.host_enumerate.specs.declared.devising.NoHost.TheVariants.{Unknown, WrongKind, NotLinked}

-- ---- one node

module _ (devices : List Registers) (links : List (PortRef × PortRef)) (node : ℕ) where
  -- a device that is a switch, or has no ID, is no endpoint with an ID
  kinds_apart : (is_switch (registers_of devices node) ≡ true)
      ⊎ ((registers_of devices node).base_id ≡ 255)
      → is_switch (registers_of devices node) ≡ false
      → (registers_of devices node).base_id ≢ 255 → ⊥
  kinds_apart (inl switch) endpoint has_id = let clash = sym switch ∙ endpoint in cc
  kinds_apart (inr none) endpoint has_id = has_id none

  -- a host is not judged to be none
  pub host_judged : (end : NoHost) → IsHost devices links node
      → JudgesHost devices links node (Err end) → ⊥
  host_judged Unknown is past =
      let none = sym (ap (option_map is_switch) (slice_get_past devices node past)) ∙ is.endpoint in
      cc
  host_judged WrongKind is other =
      let there = slice_get-get_or devices node (new_endpoint 0 false) other.0 in
      let own : Some (is_switch (registers_of devices node)) ≡ Some false =
      sym (ap (option_map is_switch) there) ∙ is.endpoint in
      kinds_apart other.1 (let e = own in cc)
      (λ none. let some = is.has_id in absurd (omega (arith, some, none)))
  host_judged NotLinked is other = let none = subst IsSome other.3 is.linked in cc

  -- a node is no host for one reason
  pub judged_once : (a b : NoHost) → JudgesHost devices links node (Err a)
      → JudgesHost devices links node (Err b) → a ≡ b
  judged_once Unknown Unknown h k = refl
  judged_once WrongKind WrongKind h k = refl
  judged_once NotLinked NotLinked h k = refl
  judged_once Unknown WrongKind h k = let there = k.0 in absurd (omega (arith, h, there))
  judged_once Unknown NotLinked h k = let there = k.2 in absurd (omega (arith, h, there))
  judged_once WrongKind Unknown h k = let there = h.0 in absurd (omega (arith, k, there))
  judged_once NotLinked Unknown h k = let there = h.2 in absurd (omega (arith, k, there))
  judged_once WrongKind NotLinked h k = absurd (kinds_apart h.1 k.0 k.1)
  judged_once NotLinked WrongKind h k = absurd (kinds_apart k.1 h.0 h.1)

-- ---- one name

module _ (names : List (List ℕ)) (word : List ℕ) where
  first_once : (m n : ℕ) → IsFirstNamed names word m → IsFirstNamed names word n → m ≡ n
  first_once m n h k = by_order (cases_lt m n) (cases_lt n m)
    where
      by_order : (m < n) ⊎ (n ≤ m) → (n < m) ⊎ (m ≤ n) → m ≡ n
      by_order (inl less) other = absurd (k.first m less h.named)
      by_order (inr most) (inl less) = absurd (h.first n less k.named)
      by_order (inr most) (inr least) = omega (arith, most, least)

module _ (names : List (List ℕ)) (devices : List Registers) (links : List (PortRef × PortRef))
    (word : List ℕ) where
  -- a name that a node has names no other node, and is not unknown
  pub found_once : (a b : Result ℕ NoHost) → FindsHost names devices links word a
      → FindsHost names devices links word b → a ≡ b
  found_once (Ok m) (Ok n) h k = ap Ok (first_once names word m n h.0 k.0)
  found_once (Ok m) (Err b) h (inl k) =
      absurd (k.0 (named_is_there names m word h.0.within h.0.named))
  found_once (Ok m) (Err b) h (inr k) =
      absurd (host_judged devices links m b h.1
      (subst (λ n. JudgesHost devices links n (Err b)) (first_once names word k.0 m k.1 h.0) k.2))
  found_once (Err a) (Ok n) (inl h) k =
      absurd (h.0 (named_is_there names n word k.0.within k.0.named))
  found_once (Err a) (Ok n) (inr h) k =
      absurd (host_judged devices links n a k.1
      (subst (λ m. JudgesHost devices links m (Err a)) (first_once names word h.0 n h.1 k.0) h.2))
  found_once (Err a) (Err b) (inl h) (inl k) = ap Err (h.1 ∙ sym k.1)
  found_once (Err a) (Err b) (inl h) (inr k) =
      absurd (h.0 (named_is_there names k.0 word k.1.within k.1.named))
  found_once (Err a) (Err b) (inr h) (inl k) =
      absurd (k.0 (named_is_there names h.0 word h.1.within h.1.named))
  found_once (Err a) (Err b) (inr h) (inr k) =
      ap Err (judged_once devices links k.0 a b
      (subst (λ m. JudgesHost devices links m (Err a)) (first_once names word h.0 k.0 h.1 k.1) h.2)
      k.2)
