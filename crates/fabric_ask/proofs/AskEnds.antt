-- What an ask shows, by where its request ends and where the response to it ends.
use Rattle.fabric_ask.proofs.Prelude.{◌≡◌, ◌≢◌, ℕ, ◌<◌, true, false, List, [], ◌∷◌, ◌++◌, Option, Some, None, slice_get, refl, sym, ap, ◌∙◌, subst, arith, if◌then◌else◌, append_assoc, MatchBool, AllByRecursion, prio_of, is_request, Passes, LinkForm, Passes-from_form, Registers, IsWithin, Request, Response, request_of, request_body, response_of, response_bytes, request_answered, responses_pass, collected, Edit, PortRef, AllRegisters, walk, same_from_push, Item, port_of, peer_in, room_out, Take, Leave, AtNode, item_of, IsAfterMoves, few_prio, Asks, seen_line, seen, Seen, TraceLine, Stepped, Lacked, Full, Made, PartSteps, face_in, IsCollect, seen-append, IsGood, good_by_priority, made_keeps, one_part, made-append, made_by, Held, Waits, IsOnly, IsClear, IsDevicePort, IsEndpointIn, IsLaid, FinalAt, AtHost, NotHost, AskRounds, most_rounds, IsAsk, topology_of, registers_of, IsOn, HasCome, after_request, hops_left, response_home, IsReplied, CollectsNothing, Topology}
use Rattle.fabric_model.proofs.Forms.{device_at}
use Rattle.fabric_ask.proofs.Laying.{laid_heard}
use Rattle.fabric_ask.proofs.Losing.{never_comes}
use Rattle.fabric_ask.proofs.Uncollected.{never-append, never_by}
use Rattle.fabric_ask.proofs.Crossing.{Split, split}
use Rattle.fabric_ask.proofs.Serving.{put_only, cleared}
use Rattle.fabric_ask.proofs.Collecting.{collect_lines_made}
use Rattle.fabric_ask.proofs.OnWay.{asks, on_request, on_response, response_asks}
use Rattle.fabric_ask.proofs.Lowering.{moves_same}
use Rattle.fabric_ask.proofs.Packets.{IsBack, is_back, read_again, moved_response}
use Rattle.fabric_ask.proofs.Walking.{walk_peer}
use Rattle.fabric_ask.proofs.Traveling.{travels, table_is}
use Rattle.fabric_ask.proofs.Asking.{IsHeard, is_heard, IsHome, comes_home, holds_it, lost_response}
use Rattle.fabric_ask.proofs.Hosting.{leaves_is, one_line, left_not_asked, has_room_out}

module _ (host : ℕ) (request : Request) (noise : List Edit) (s : Seen) (lines : List TraceLine)
    (good : IsGood s) (none : s.undetected ≡ None) (clear : IsClear s.network)
    (laid : IsLaid s.network.registers s.network.links host)
    (within : AllByRecursion IsWithin s.network.registers) (low : request.hop < 256)
    (reads : (packet : List ℕ) → LinkForm (request_body request) packet
    → request_of packet ≡ Some request)
    (ask : IsAsk host request noise s lines) (still : (seen s lines).undetected ≡ None) where
  abbrev topo : Topology
  topo = topology_of s.network.registers s.network.links host

  abbrev table : AllRegisters
  table = registers_of s.network.registers

  parts : Split (Asks s host request) (AskRounds host most_rounds noise) s lines
  parts = split (Asks s host request) (AskRounds host most_rounds noise) s lines ask still

  abbrev packet : List ℕ
  packet = parts.own.packet

  passes : Passes parts.own.packet
  passes = Passes-from_form (request_body request) parts.own.packet parts.own.form

  asked : request_of parts.own.packet ≡ Some request
  asked = reads parts.own.packet parts.own.form

  room : room_out s.network (port_of host) (prio_of parts.own.packet) ≡ true
  room = has_room_out s.network (port_of host) (prio_of parts.own.packet) clear

  abbrev take : TraceLine
  take = Stepped (AtNode (Take host parts.own.packet))

  first_is : parts.first ≡ Stepped (AtNode (Take host parts.own.packet)) ∷ []
  first_is = parts.own.lines ∙ ap (λ b. if b then Stepped (AtNode (Take host parts.own.packet)) ∷ []
      else Lacked Full ∷ []) room

  made_first : Made s parts.first
  made_first = made_by first_is (one_part
      (PartSteps (Take host parts.own.packet) (parts.own.endpoint, passes, room)
      (few_prio parts.own.packet passes) refl))

  abbrev t : Seen
  t = seen s parts.first

  t_is : t ≡ seen_line s (Stepped (AtNode (Take host parts.own.packet)))
  t_is = ap (seen s) first_is

  abbrev item : Item
  item = item_of s.network (port_of host) parts.own.packet

  waits_there : IsOnly t.network (Waits (port_of host)) item
  waits_there =
      let put = put_only s.network (port_of host) (prio_of parts.own.packet) (item ∷ []) item clear
      refl refl in
      subst (λ (x : Seen). IsOnly x.network (Waits (port_of host)) item) (sym t_is)
      (record { received = put.received; waiting = put.waiting; lent = put.lent })

  t_good : IsGood t
  t_good = (made_keeps good made_first).good

  t_regs : t.network.registers ≡ s.network.registers
  t_regs = ap (λ (x : Seen). x.network.registers) t_is

  t_links : t.network.links ≡ s.network.links
  t_links = ap (λ (x : Seen). x.network.links) t_is

  t_laid : IsLaid t.network.registers t.network.links host
  t_laid = subst (λ r. IsLaid r t.network.links host) (sym t_regs)
      (subst (λ l. IsLaid s.network.registers l host) (sym t_links) laid)

  first_nothing : CollectsNothing host parts.first
  first_nothing = never_by host first_is (tt, tt)

  behind : (seen t parts.rest).undetected ≡ None
  behind = sym (ap (λ (x : Seen). x.undetected) parts.after) ∙ still

  on : IsOn parts.own.packet request.dest request.hop
  on = on_request parts.own.packet request passes asked

  -- a request that ends nowhere is not collected
  pub ends_nowhere : walk topo table request.dest request.hop (port_of host) ≡ None
      → CollectsNothing host lines
  ends_nowhere ends = never_by host parts.whole
      (never-append host parts.first parts.rest first_nothing
      (never_comes host request.dest s.network.registers s.network.links laid request.hop
      most_rounds
      noise t parts.rest (port_of host) item t_good parts.still t_regs t_links waits_there on ends
      parts.more behind))

  module _ (at : PortRef) (ends : walk topo table request.dest request.hop (port_of host) ≡ Some at)
    where
      abbrev hops : ℕ
      hops = hops_left topo table request.dest request.hop (port_of host)

      arrived : HasCome host most_rounds request.dest request.hop hops t parts.rest at item
      arrived = travels host request.dest s.network.registers s.network.links laid request.hop
          most_rounds noise t parts.rest (port_of host) at item (omega (arith, low)) t_good
          parts.still
          t_regs t_links waits_there on ends parts.more behind

      peer : (q : PortRef) × (peer_in s.network.links at ≡ Some q)
      peer = walk_peer s.network.registers s.network.links host request.dest good.proper request.hop
          (port_of host) at ends

      port : IsDevicePort s.network.registers at
      port = laid.ports at peer.0 peer.1

      -- a request that came back to the host does not leave there
      pub comes_back : at.node ≡ host → (front : List TraceLine) (p : List ℕ)
          → lines ≡ front ++ Stepped (AtNode (Leave host p)) ∷ [] → ⊥
      comes_back here front p whole = by_final arrived.final
        where
          v : Seen
          v = seen t arrived.front

          v_good : IsGood v
          v_good = (made_keeps t_good arrived.made).good

          asks_still : is_request arrived.passed.now ≡ true
          asks_still =
              (moves_same item.now arrived.passed.now arrived.moves arrived.same_packet).1
              ∙ asks item.now request asked

          at_is : at ≡ port_of host
          at_is = laid.ends at peer.0 peer.1
              (subst (IsEndpointIn s.network.registers) (sym here) laid.host_is)
              ∙ ap port_of here

          by_final : FinalAt host arrived.mid at arrived.passed hops v.network → ⊥
          by_final (NotHost apart final) = apart here
          by_final (AtHost same only regs) =
              let there = subst (λ x. IsOnly v.network (Held x) arrived.passed) at_is only in
              let collect : IsCollect v.network host arrived.rest =
              subst (λ b. MatchBool b (IsCollect v.network host arrived.rest)
              (AskRounds host arrived.rounds_left arrived.noise_left v arrived.rest))
              (holds_it host v arrived.passed there
              (few_prio arrived.passed.now arrived.on.passes)) arrived.more in
              let one = one_line host (collected collect.device (face_in v.network (port_of host)))
              in
              let last : arrived.rest ≡ one.0 ∷ [] = collect.lines ∙ one.1 in
              let all : lines ≡ (parts.first ++ arrived.front) ++ one.0 ∷ [] =
              parts.whole ∙ ap (λ (l : List TraceLine). parts.first ++ l)
              (arrived.whole ∙ ap (λ (l : List TraceLine). arrived.front ++ l) last)
              ∙ sym (append_assoc parts.first arrived.front (one.0 ∷ [])) in
              let line : one.0 ≡ Stepped (AtNode (Leave host p)) =
              (same_from_push (parts.first ++ arrived.front) front one.0
              (Stepped (AtNode (Leave host p))) (sym all ∙ whole)).1 in
              let leaves = subst (IsCollect v.network host)
              (last ∙ ap (λ (x : TraceLine). x ∷ []) line) collect in
              left_not_asked v host p arrived.passed v_good there leaves asks_still

      module _ (away : at.node ≢ host) where
        abbrev device : Registers
        device = port.device

        h : IsHeard host most_rounds t parts.rest at request device
        h = is_heard host most_rounds t parts.rest at item request device asked
            (ap (λ (r : List Registers). slice_get r at.node) t_regs ∙ port.stands) away low hops
            arrived

        abbrev u : Seen
        u = seen t h.front

        u_good : IsGood u
        u_good = (made_keeps t_good h.made).good

        abbrev regs : List Registers
        regs = after_request s.network.registers at request

        u_regs : u.network.registers ≡ regs
        u_regs = h.registers ∙ ap (λ (r : List Registers). after_request r at request) t_regs

        u_links : u.network.links ≡ s.network.links
        u_links = h.links ∙ t_links

        heard_laid : IsLaid regs s.network.links host
        heard_laid = laid_heard s.network.registers s.network.links host at request laid

        abbrev response : Response
        response = (request_answered device request at.port).response

        back : IsBack request response
        back = is_back device request at.port

        response_low : response.prio < 4
        response_low = let p = back.prio in omega (arith, p)

        is_within : IsWithin device
        is_within = device_at s.network.registers at.node device port.stands within

        response_passes : Passes (response_bytes response)
        response_passes = responses_pass device parts.own.packet request at.port is_within
            (let below = port.below in let most = is_within.ports in omega (arith, below, most))
            passes
            asked

        response_read : response_of (response_bytes response) ≡ Some response
        response_read = read_again response response_passes response_low back.formed

        on_way : IsOn h.item.now request.source 255
        on_way =
            let own = on_response (response_bytes response) response response_passes response_read
            in
            subst (λ p. IsOn p request.source 255) (sym h.response) (record {
              passes = own.passes;
              maintenance = own.maintenance;
              goal = own.goal ∙ ap Some back.dest;
              hop = own.hop ∙ ap Some back.hop;
            })

        unasked : is_request h.item.now ≡ false
        unasked = ap is_request h.response
            ∙ response_asks (response_bytes response) response response_read

        u_behind : (seen u h.rest).undetected ≡ None
        u_behind = sym (ap (λ (x : Seen). x.undetected) (seen-append t h.front h.rest))
            ∙ ap (λ (l : List TraceLine). (seen t l).undetected) (sym h.whole) ∙ behind

        enough : 255 < h.rounds_left
        enough = let e = h.enough in omega (arith, e)

        abbrev way : Option PortRef
        way = walk (topology_of regs s.network.links host) (registers_of regs) request.source 255 at

        all_nothing : CollectsNothing host h.rest → CollectsNothing host lines
        all_nothing rest = never_by host parts.whole
            (never-append host parts.first parts.rest first_nothing
            (never_by host h.whole (never-append host h.front h.rest h.nothing rest)))

        -- a response that ends elsewhere, or nowhere, is not collected
        pub not_returning : (way ≡ Some (port_of host) → ⊥) → CollectsNothing host lines
        not_returning other = by_way way refl
          where
            by_way : (o : Option PortRef) → way ≡ o → CollectsNothing host lines
            by_way None is = all_nothing (never_comes host request.source regs s.network.links
                heard_laid 255 h.rounds_left h.noise_left u h.rest at h.item u_good h.still u_regs
                u_links h.only on_way is h.more u_behind)
            by_way (Some end) is = all_nothing
                (lost_response host request.source regs s.network.links
                heard_laid h.rounds_left h.noise_left u h.rest at end h.item enough u_good h.still
                u_regs u_links h.only on_way unasked is apart h.more u_behind)
              where
                apart : end.node ≡ host → ⊥
                apart here =
                    let last = walk_peer regs s.network.links host request.source good.proper 255 at
                    end
                    is in
                    other (is ∙ ap Some (heard_laid.ends end last.0 last.1
                    (subst (IsEndpointIn regs) (sym here) heard_laid.host_is) ∙ ap port_of here))

        module _ (returns : way ≡ Some (port_of host)) where
          abbrev left : ℕ
          left = hops_left (topology_of regs s.network.links host) (registers_of regs)
              request.source
              255 at

          home : IsHome host request.source left u h.rest h.item.now
          home = comes_home host request.source regs s.network.links heard_laid h.rounds_left
              h.noise_left u h.rest at h.item enough u_good h.still u_regs u_links h.only on_way
              returns
              h.more u_behind

          abbrev v : Seen
          v = seen u home.front

          v_good : IsGood v
          v_good = (made_keeps u_good home.made).good

          no_request : is_request home.item.now ≡ false
          no_request = (moves_same h.item.now home.item.now home.moves home.same_packet).1 ∙ unasked

          last_is : home.rest ≡ Stepped (AtNode (Leave host home.item.now)) ∷ []
          last_is = leaves_is v.network host home.item (good_by_priority v_good) home.only
              (few_prio home.item.now home.on.passes) no_request home.rest home.more

          lines_are : lines ≡ (parts.first ++ (h.front ++ home.front)) ++ Stepped
              (AtNode (Leave host home.item.now)) ∷ []
          lines_are =
              parts.whole ∙ ap (λ (l : List TraceLine). parts.first ++ l)
              (h.whole ∙ ap (λ (l : List TraceLine). h.front ++ l)
              (home.whole ∙ ap (λ (l : List TraceLine). home.front ++ l) last_is)
              ∙ sym (append_assoc h.front home.front
              (Stepped (AtNode (Leave host home.item.now)) ∷ [])))
              ∙ sym (append_assoc parts.first (h.front ++ home.front)
              (Stepped (AtNode (Leave host home.item.now)) ∷ []))

          end_is : seen s lines ≡ seen_line v (Stepped (AtNode (Leave host home.item.now)))
          end_is =
              parts.after ∙ ap (seen t) h.whole ∙ seen-append t h.front h.rest
              ∙ ap (seen u) home.whole
              ∙ seen-append u home.front home.rest ∙ ap (seen v) last_is

          last_made : Made v home.rest
          last_made = collect_lines_made v host home.rest v_good home.still home.more

          device_is : registers_of s.network.registers at.node ≡ device
          device_is = table_is host request.dest s.network.registers s.network.links laid at.node
              device
              port.stands

          response_is : response_of home.item.now ≡ Some
              (response_home s.network.registers s.network.links host request at)
          response_is =
              moved_response response home.item.now home.moves left response_passes response_low
              back.formed (subst (λ p. IsAfterMoves p home.moves home.item.now) h.response
              home.same_packet) home.on.hop
              ∙ ap (λ (d : Registers). Some (record (request_answered d request at.port).response
              { hop = left }))
              (sym device_is)

          pub replied : IsReplied host s lines at request
          replied = record {
            front = parts.first ++ (h.front ++ home.front);
            packet = home.item.now;
            whole = lines_are;
            nothing = never-append host parts.first (h.front ++ home.front) first_nothing
                (never-append host h.front home.front h.nothing home.nothing);
            response = response_is;
            clear = subst (λ (x : Seen). IsClear x.network) (sym end_is)
                (cleared v.network (port_of host) home.item home.only);
            registers = ap (λ (x : Seen). x.network.registers) end_is ∙ home.registers ∙ u_regs;
            made = made_by parts.whole (made-append made_first
                (made_by h.whole (made-append h.made
                (made_by home.whole (made-append home.made last_made)))));
          }
