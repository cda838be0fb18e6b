-- Clients that stand as their callers do.
use Rattle.std.proofs.Common.{◌≡◌, ◌<◌, ◌+◌, ℕ, Bool, true, false, List, [], ◌∷◌, ◌++◌, length, get_or, set, if◌then◌else◌, refl, sym, ap, ◌∙◌, subst, arith, eqb-true, get_or-set_same, get_or-set_other, length-append}
use Rattle.std.proofs.lemmas.Bool.{eqb-false}
use Rattle.std.proofs.lemmas.List.{length-set, get_or_append_left}
use Rattle.std.proofs.Math.Seq.{get_or-append_seam}
use Rattle.std.specs.Prelude.{◌==◌}
use Rattle.qe_field.specs.declared.field.Field.{Field}
use Rattle.qe_plain.specs.declared.command.PlainCommand.{PlainCommand}
use Rattle.qe_protocol.specs.declared.reply.Outcome.{Outcome}
use Rattle.qe_script.specs.declared.script.Script.{Script}
use Rattle.qe_encodes.specs.Callers.{Callers, caller_next, callers_next, opening_callers}
use Rattle.qe_runs.specs.Runs.{Setting, sender_of, setting_of}
use Rattle.qe_client.specs.Clients.{Held, new_client, with_leaves}
use Rattle.qe_line_run.specs.Running.{AreClients, IsClient}

module _ (setting : Setting) (callers : Callers) (clients : List Held) where
  -- one client takes the place of another, and stands as its caller does after a command
  module _ (are : AreClients setting callers clients) (who : ℕ) (plain : PlainCommand) (outcome : Outcome) (client : Held)
      (within : who < length clients) (sender : client.sender ≡ sender_of setting who)
      (caller : client.caller ≡ caller_next (callers who) plain outcome) where
    next_client : (k : ℕ) (other : Held) → k < length clients → (own : Bool) → (k == who) ≡ own
        → IsClient setting (callers_next callers who plain outcome) k (get_or (set clients who client) k other)
    next_client k other below true own =
        let same : k ≡ who = eqb-true k who own in
        let here : get_or (set clients who client) k other ≡ client =
        ap (λ j. get_or (set clients who client) j other) same ∙ get_or-set_same clients who client other within in
        record {
          sender = ap (λ (held : Held). held.sender) here ∙ sender ∙ ap (sender_of setting) (sym same);
          caller = ap (λ (held : Held). held.caller) here ∙ caller ∙ ap (λ j. caller_next (callers j) plain outcome) (sym same)
              ∙ sym (ap (λ (b : Bool). if b then caller_next (callers k) plain outcome else callers k) own);
        }
    next_client k other below false own =
        let there : get_or (set clients who client) k other ≡ get_or clients k other =
        get_or-set_other clients who k client other (eqb-false k who own) in
        let stands : IsClient setting callers k (get_or clients k other) = are.each k other below in
        record {
          sender = ap (λ (held : Held). held.sender) there ∙ stands.sender;
          caller = ap (λ (held : Held). held.caller) there ∙ stands.caller
              ∙ sym (ap (λ (b : Bool). if b then caller_next (callers k) plain outcome else callers k) own);
        }

    pub clients_next : AreClients setting (callers_next callers who plain outcome) (set clients who client)
    clients_next = record {
      count = length-set clients who client ∙ are.count;
      each = λ k other below. next_client k other (omega (arith, below, length-set clients who client)) (k == who) refl;
    }

  -- the first clients
  abbrev pub EachIsClient : Type 0
  EachIsClient = (who : ℕ) (other : Held) → who < length clients → IsClient setting callers who (get_or clients who other)

pub each_more : (setting : Setting) (callers : Callers) (clients : List Held) (client : Held) → EachIsClient setting callers clients
    → IsClient setting callers (length clients) client → EachIsClient setting callers (clients ++ client ∷ [])
each_more setting callers clients client each is who other below = by_place (who == length clients) refl
  where
    by_place : (last : Bool) → (who == length clients) ≡ last → IsClient setting callers who (get_or (clients ++ client ∷ []) who other)
    by_place true last =
        let same : who ≡ length clients = eqb-true who (length clients) last in
        let here : get_or (clients ++ client ∷ []) who other ≡ client =
        ap (λ j. get_or (clients ++ client ∷ []) j other) same ∙ get_or-append_seam clients client [] other in
        subst (λ (held : Held). IsClient setting callers who held) (sym here) (subst (λ j. IsClient setting callers j client) (sym same) is)
    by_place false last =
        let other_place : who ≡ length clients → ⊥ = eqb-false who (length clients) last in
        let earlier : who < length clients = omega (arith, below, length-append clients (client ∷ []), other_place) in
        subst (λ (held : Held). IsClient setting callers who held) (sym (get_or_append_left clients (client ∷ []) other who earlier)) (each who other earlier)

-- a new client is its caller, as it stands at first
pub client_at_first : (script : Script) (who : ℕ) (fields : List Field) (keys : List (List ℕ)) (name : List ℕ) (client : Held) → fields ≡ script.schema
    → keys ≡ script.keys → name ≡ get_or script.callers who []
    → client ≡ with_leaves (new_client (record { schema = fields; keys = keys }) script.seed name) script.leaf
    → IsClient (setting_of script) (opening_callers script.schema) who client
client_at_first script who fields keys name client fields_are keys_are name_is is = record {
  sender = ap (λ (held : Held). held.sender) is
      ∙ (λ i. record { under = record { schema = fields_are i; keys = keys_are i }; leaves = script.leaf; seed = script.seed; name = name_is i });
  caller = ap (λ (held : Held). held.caller) is ∙ ap (λ (fs : List Field). opening_callers fs who) fields_are;
}
