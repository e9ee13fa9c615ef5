-- Each access leaves a walker along its way.
use Rattle.contest_machine.proofs.Prelude.{◌≡◌, ◌≢◌, ◌⊎◌, inl, inr, ℕ, ◌<◌, List, [], ◌∷◌, Some, Contains, refl, subst, sym, ap, ◌∙◌, PortRef, Registers, Device, Topology, along, entered, Before, IsMet, Walked, AllRegisters, paths_of, node_at-entered, Write, after_access, IsUnderway, IsMember, met-tagged, underway-past, Tried, Ask, Claim, Check, Test, Features, Information, Walker, gone_on, taken, IsMine, Stage}
use Rattle.contest_machine.proofs.Keeping.Stepped.{at_stage}
use Rattle.contest_machine.proofs.Numbering.OnWay.{IsOnWay, IsListed, IsApart, IsFresh, bound_at}
use Rattle.contest_machine.proofs.Numbering.Claiming.{claim_on_way, won_on_way}
use Rattle.contest_machine.proofs.Numbering.Failing.{lost_on_way, own_on_way}
use Rattle.contest_machine.proofs.Numbering.Chained.{AreChained}
use Rattle.contest_machine.proofs.Numbering.Along.{IsHere, IsHereAt, IsAlong, front_of, port_of, here_is, past_is, first_of, gone_along}

-- more devices in the list
pub chain_more : (view : Topology) (devices more : List Device) (tried : List Tried)
    → ((path : List ℕ) → Contains (paths_of devices) path → Contains (paths_of more) path)
    → AreChained view devices tried → AreChained view more tried
chain_more view devices more [] on chained = tt
chain_more view devices more (top ∷ rest) on chained = (
  record {
    at = chained.0.at;
    leads = chained.0.leads;
    switch = chained.0.switch;
    entry = chained.0.entry;
    other = chained.0.other;
    listed = on top.path chained.0.listed;
    front = chained.0.front;
    by = chained.0.by;
    whole = chained.0.whole;
  },
  chained.1,
  chain_more view devices more rest on chained.2,
)

pub front_listed : (view : Topology) (devices : List Device) (path : List ℕ) (tried : List Tried)
    → AreChained view devices tried → Walked view (paths_of devices) path → IsHere path tried
    → Contains (paths_of devices) (front_of tried)
front_listed view devices path [] chained walked here =
    walked.host_met (subst (Before []) (sym here) tt)
front_listed view devices path (top ∷ rest) chained walked here = chained.0.listed

module _ (w : Walker) (now : AllRegisters) (fits : w.id < 0xff) where
  -- at another stage, with the same bound and the same devices apart
  restaged : (stage next : Stage)
      → bound_at (at_stage w next) next ≡ bound_at (at_stage w stage) stage
      → ((node : ℕ) → IsApart (at_stage w next) next node → IsApart (at_stage w stage) stage node)
      → ((node : ℕ) → IsApart (at_stage w stage) stage node → IsApart (at_stage w next) next node)
      → ((way : IsOnWay (at_stage w stage) now) → IsFresh (at_stage w next) way.before now next)
      → IsHereAt (at_stage w next) next → IsAlong (at_stage w stage) now
      → IsAlong (at_stage w next) now
  restaged stage next bound back on fresh here along = record {
    way = record {
      before = along.way.before;
      seen = along.way.seen;
      underway =
          subst (λ l. IsUnderway w.view along.way.before along.way.seen w.id w.devices w.next l)
          (sym bound) along.way.underway;
      seen_is = λ node none. along.way.seen_is node (λ apart. none (on node apart));
      new = λ node apart. along.way.new node (back node apart);
      hosted = hosted along.way.hosted;
      fresh = fresh along.way;
    };
    host = along.host;
    chained = along.chained;
    here = here;
  }
    where
      hosted : IsListed w.view w.devices w.view.host ⊎ IsApart (at_stage w stage) stage w.view.host
          → IsListed w.view w.devices w.view.host ⊎ IsApart (at_stage w next) next w.view.host
      hosted (inl listed) = inl listed
      hosted (inr apart) = inr (on w.view.host apart)

  -- a lock that was read, and is to be read again or claimed, or whose tag is to be read
  pub ask_along : IsAlong (at_stage w Ask) now → IsAlong (at_stage w Ask) now
      × IsAlong (at_stage w Claim) now × IsAlong (at_stage w Test) now
  ask_along along = (
    along,
    restaged Ask Claim refl (λ node a. a) (λ node a. a) (λ way. tt) along.here along,
    restaged Ask Test refl (λ node a. a) (λ node a. a) (λ way. tt) along.here along,
  )

  module _ (at : PortRef) (enters : entered w.view w.path ≡ Some at) where
    pub claim_along : IsMine (at_stage w Claim) now → IsAlong (at_stage w Claim) now
        → IsAlong (at_stage w Check) (after_access now at (Write 0x68 w.id))
    claim_along mine along = record {
      way = claim_on_way w now fits at enters mine along.way;
      host = along.host;
      chained = along.chained;
      here = along.here;
    }

    pub lost_along : IsAlong (at_stage w Check) now → (now at.node).lock ≢ w.id
        → IsAlong (at_stage w Ask) now
    lost_along along other = record {
      way = lost_on_way w now fits at enters along.way other along.host;
      host = along.host;
      chained = along.chained;
      here = along.here;
    }

    pub won_along : IsAlong (at_stage w Check) now → (now at.node).lock ≡ w.id
        → IsAlong (taken w) now
    won_along along held =
        let whole = here_is w.path w.tried along.here in
        let first = first_of w.path (front_of w.tried) (port_of w.tried) whole in
        record {
          way = won_on_way w now fits at enters first.0 first.1 first.2 along.way held along.host;
          host = along.host;
          chained = along.chained;
          here = along.here;
        }

    pub own_along : IsAlong (at_stage w Test) now → (now at.node).lock ≡ w.id
        → (now at.node).tag ≡ 0 → IsAlong (taken w) now
    own_along along held none =
        let whole = here_is w.path w.tried along.here in
        let first = first_of w.path (front_of w.tried) (port_of w.tried) whole in
        record {
          way = own_on_way w now fits at enters first.0 first.1 first.2 along.way held none
              along.host;
          host = along.host;
          chained = along.chained;
          here = along.here;
        }

    -- a device that was met before
    pub met_along : IsAlong (at_stage w Test) now → (now at.node).lock ≡ w.id
        → (now at.node).tag ≢ 0 → IsAlong (gone_on (at_stage w Test) w.tried) now
    met_along along held tagged =
        let way = along.way in
        let whole = here_is w.path w.tried along.here in
        let is = way.seen_is at.node (λ a. a) in
        gone_along (at_stage w Test) way.before way.seen now along.host
        (λ node. way.seen_is node (λ a. a)) w.tried along.chained
        (subst (λ l. IsUnderway w.view way.before way.seen w.id w.devices w.next l)
        (sym (past_is w.tried))
        (underway-past w.view way.before way.seen w.id w.next w.devices (front_of w.tried)
        (port_of w.tried)
        (subst (λ l. IsUnderway w.view way.before way.seen w.id w.devices w.next l) whole
        way.underway)
        (front_listed w.view w.devices w.path w.tried along.chained way.underway.walked along.here)
        (λ leads. subst (IsMet w.view (paths_of w.devices)) whole
        (met-tagged w.view way.before way.seen w.id w.next w.devices w.path way.underway at enters
        (ap (λ (d : Registers). d.lock) is ∙ held)
        (λ none. tagged (ap (λ (d : Registers). d.tag) (sym is) ∙ none))))))

    -- it is a switch
    pub information_along : IsAlong (at_stage w Features) now → IsAlong (at_stage w Information) now
    information_along along =
        restaged Features Information refl (λ node a. a) (λ node a. a) (λ way. way.fresh) along.here
        along

    pub not_host : IsOnWay (at_stage w Features) now → IsMember w.view w.devices w.view.host
        → at.node ≢ w.view.host
    not_host way host same =
        way.new at.node (node_at-entered w.view w.path at enters) host.0 host.1
        (host.2 ∙ ap (λ n. Some n) (sym same))
