-- The request that carries an access of a host, and the answer that its response brings.
use Rattle.std.specs.Prelude.{ℕ, false, Option, Some, None, if◌then◌else◌}
use Rattle.maint_packets.specs.declared.request.Op.{Op}
use Rattle.maint_packets.specs.declared.request.Op.TheVariants as Ops
use Rattle.maint_packets.specs.declared.request.Request.{Request}
use Rattle.maint_packets.specs.declared.response.Response.{Response}
use Rattle.maint_packets.specs.Requests.{names_second}
use Rattle.host_enumerate.specs.Accesses.{access_offset}
use Rattle.host_enumerate.specs.declared.maint.Access.{Access}
use Rattle.host_enumerate.specs.declared.maint.Access.TheVariants.{Read, Write}
use Rattle.host_enumerate.specs.declared.maint.Answer.{Answer}

abbrev pub access_op : Access → Op
access_op (Read offset) = Ops.Read
access_op (Write offset value) = Ops.Write value

-- from an ID, with a transaction number, to a destination behind so many hops; its priority is 0,
-- and its IDs
-- have eight bits
abbrev pub request_for : ℕ → ℕ → ℕ → ℕ → Access → Request
request_for source tid dest hops access = record {
  prio = 0;
  dest = dest;
  source = source;
  large = false;
  op = access_op access;
  tid = tid;
  hop = hops;
  offset = access_offset access;
}

-- the word that an offset names, or 0 if there are none
abbrev pub word_named : ℕ → Option (ℕ × ℕ) → ℕ
word_named offset None = 0
word_named offset (Some words) = if names_second offset then words.1 else words.0

abbrev pub answer_in : Response → ℕ → Answer
answer_in response offset =
    record { status = response.status; value = word_named offset response.words }
