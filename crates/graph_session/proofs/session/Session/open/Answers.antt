use Rattle.std.proofs.Common.{Err, ap, inl, refl, subst, sym}
use Rattle.rec_bytes.specs.declared.key.Key.{Key}
use Rattle.rec_bytes.specs.declared.record.Rec.{Rec}
use Rattle.rec_bytes.specs.declared.shape.Shape.{Shape}
use Rattle.record_file.specs.Redone.{Redoes}
use Rattle.record_file.proofs.Redone.{Redoes-kept}
use Rattle.txn_core.specs.Opening.{Opens}
use Rattle.txn_core.specs.Store.{committed}
use Rattle.txn_core.proofs.StoreRecords.{committed-read}
use Rattle.name_store.specs.declared.names.Names.{Names}
use Rattle.graph_session.proofs.Beginnings.{loaded-opens, loaded-refused, opening-leaves, opening-sound}
use Rattle.graph_session.proofs.session.Session.open.Goals as goal

-- the store isn't opened
pub returns-in-Err-clause-unopened : goal.returns-in-Err-clause-unopened
returns-in-Err-clause-unopened g c =
    let d = g.D.Disk in
    let old = c.args.disk.now in
    let refusal = c.in-Err.refusal in
    record {
      refused = λ told. inl (c.in-Err.ensures.refused told);
      sound = λ told. opening-sound (d.reads old) c.args.config refusal.why (λ space shape redoes made. c.in-Err.ensures.sound told space shape redoes made)
          (λ unmade. c.in-Err.ensures.unmade told unmade);
      crash = opening-leaves d c.args.config old refusal.disk.now c.requires (record {
        made = λ told images space shape redoes made. c.in-Err.ensures.left told images space shape redoes made;
        blank = λ told images unmade. c.in-Err.ensures.left_new told images unmade;
      });
      careful = c.in-Err.ensures.careful;
      untouched = λ told refused. inl (c.in-Err.ensures.untouched told refused);
      differs = λ told space redoes other. c.in-Err.ensures.differs told space redoes other;
      clean = λ told clean. c.in-Err.ensures.clean_refused told clean;
      later = c.in-Err.ensures.later_refused;
      cause = c.in-Err.ensures.cause;
    }

-- its names are loaded
pub returns-in-Ok-load-clause-opened : goal.returns-in-Ok-load-clause-opened
returns-in-Ok-load-clause-opened g c =
    loaded-opens g.met.D.Disk.counts_now c.args.config c.args.disk.now c.in-Ok.store c.load.new.space
    (record {
      allowed = c.requires;
      opened = c.in-Ok.ensures.opened;
      suits = c.in-Ok.ensures.suits;
      live = c.in-Ok.ensures.live;
      closed = c.in-Ok.ensures.closed;
      own = c.in-Ok.ensures.own;
      draft = c.in-Ok.ensures.draft;
      stored = c.in-Ok.ensures.stored;
      leaves = record {
        made = λ told images space shape redoes made. c.in-Ok.ensures.crash told images space shape redoes made;
        blank = λ told images unmade. c.in-Ok.ensures.crash_new told images unmade;
      };
      clean = λ told clean. c.in-Ok.ensures.clean told clean;
      later = c.in-Ok.ensures.later;
    })
    c.load.ensures.onward c.load.ensures.cause.later _ refl refl refl refl refl refl refl c.in-Ok-load.ensures.loaded refl c.in-Ok-load.ensures.reads

-- they aren't
pub returns-in-Err-load-clause-unopened : goal.returns-in-Err-load-clause-unopened
returns-in-Err-load-clause-unopened g c =
    loaded-refused g.met.D.Disk.counts_now c.args.config c.args.disk.now c.in-Ok.store c.load.new.space
    (record {
      allowed = c.requires;
      opened = c.in-Ok.ensures.opened;
      suits = c.in-Ok.ensures.suits;
      live = c.in-Ok.ensures.live;
      closed = c.in-Ok.ensures.closed;
      own = c.in-Ok.ensures.own;
      draft = c.in-Ok.ensures.draft;
      stored = c.in-Ok.ensures.stored;
      leaves = record {
        made = λ told images space shape redoes made. c.in-Ok.ensures.crash told images space shape redoes made;
        blank = λ told images unmade. c.in-Ok.ensures.crash_new told images unmade;
      };
      clean = λ told clean. c.in-Ok.ensures.clean told clean;
      later = c.in-Ok.ensures.later;
    })
    c.load.ensures.onward c.load.ensures.cause.later Names c.close.result.now c.why_of.result c.in-Err-load.fault c.close.ensures.disk c.why_of.ensures
    c.in-Err-load.ensures.damaged c.in-Err-load.ensures.not_damaged
    (λ e. c.in-Err-load.ensures.cause.disk (ap Err e))

-- what is read of the disk is what is committed
pub returns-in-Ok-load-clause-stored : goal.returns-in-Ok-load-clause-stored
returns-in-Ok-load-clause-stored g c = λ told.
    let d = g.D.Disk in
    let opened = c.in-Ok.store in
    let loaded = c.load.new.space in
    subst (λ (records : Key → Rec). Redoes (d.reads loaded.base.disk.now) records) (sym (committed-read opened.base loaded.base c.load.ensures.onward))
    (Redoes-kept (committed opened) (d.reads opened.base.disk.now) (d.reads loaded.base.disk.now) (c.in-Ok.ensures.stored.read told)
    c.load.ensures.onward.disk.keeps)

-- these are the records of the store that was opened
pub returns-in-Ok-load-clause-records : goal.returns-in-Ok-load-clause-records
returns-in-Ok-load-clause-records g c = λ told.
    let opened = c.in-Ok.store in
    let loaded = c.load.new.space in
    subst (λ (shape : Shape). Opens (g.D.Disk.reads c.args.disk.now) c.args.config shape (committed loaded)) (sym c.load.ensures.onward.shape)
    (subst (λ (records : Key → Rec). Opens (g.D.Disk.reads c.args.disk.now) c.args.config opened.base.shape records)
    (sym (committed-read opened.base loaded.base c.load.ensures.onward)) (c.in-Ok.ensures.opened told))
