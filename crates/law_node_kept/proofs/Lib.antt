mod Clean
mod Hearing
mod ServerKeeps
mod ServerEvents
mod ClientDone
mod InProxyMay
